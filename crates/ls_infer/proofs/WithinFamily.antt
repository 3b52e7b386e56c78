-- What a table tells is what the spaces within its family force.
use Rattle.ls_infer.proofs.Vocabulary.{◌&&◌, ◌||◌, ◌↔◌, ◌∙◌, ◌∷◌, ◌≡◌, All-list_all, Bool, IsGood, IsInOrder, IsPart, IsUnionFamily, Items, Known, List, No, None, Option, Query, Some, ℕ, [], and_from, and_parts, ap, ap₂, closure, cond, false, false_from_ne_true, family-from, family_sets, filter, first_least, full, good-from, has, has-closure, is_forced_by, is_forced_by_closures, is_forced_no, is_forced_yes, is_good, is_open, is_space, kept_is, list_all, list_all-All, list_all-filter, list_all-map, list_any, list_any-map, map, not, not-true, not_from_false, option_map_or, refl, same_truth, some_breaks, space-from, space-to, sublists, subst, sym, told, true, true≢false}
use Rattle.std.specs.Prelude.{option_map, is_some}
use Rattle.ls_laws.proofs.Fit.{Fits, forced_yes, forced_no}
use Rattle.ls_laws.proofs.Search.{sublists-each, all_sublists-each}
use Rattle.ls_infer.specs.Forced.{FitsNos, spaces_within}
use Rattle.ls_infer.proofs.Least.{least_with, least_with-parts, least_with-first}

abbrev query_of : No → Query
query_of a = a.query

-- the relation of a space within the family
abbrev Within : ℕ → List Items → List No → List Items → Type 0
Within n f nos g = Fits n f (map query_of nos) g

-- ---- the search through the sublists

either : (a b : Bool) → (a ≡ true → b ≡ true) → (not a || b) ≡ true
either true b h = h refl
either false b h = refl

abbrev passes : ℕ → List No → List Items → Bool
passes n nos g = is_space (full n) g && list_all (λ a. some_breaks g a.query) nos

within-from : (n : ℕ) (f : List Items) (nos : List No) (g : List Items) → FitsNos n f nos → IsInOrder g → IsPart g f → passes n nos g ≡ true → Within n f nos g
within-from n f nos g fits order part h =
    let a = and_parts (is_space (full n) g) (list_all (λ a. some_breaks g a.query) nos) h in
    record {
      in_order = order;
      is_family = family-from n g (λ k c. fits.is_family.small k (part k c)) a.0;
      holds_full = (space-from (full n) g a.0).holds_whole;
      compatible = part;
      broken = list_all-All (some_breaks g) (map query_of nos) (list_all-map (some_breaks g) query_of nos ∙ a.1);
    }

within-passes : (n : ℕ) (f : List Items) (nos : List No) (g : List Items) → Within n f nos g → passes n nos g ≡ true
within-passes n f nos g h = and_from (is_space (full n) g) (list_all (λ a. some_breaks g a.query) nos)
    (space-to (full n) g h.is_family.holds_empty h.holds_full h.is_family.holds_unions)
    (sym (list_all-map (some_breaks g) query_of nos) ∙ All-list_all (some_breaks g) (map query_of nos) h.broken)

all_within : (p : List Items → Bool) (n : ℕ) (f : List Items) (nos : List No) → FitsNos n f nos → (list_all p (spaces_within n f nos) ≡ true) ↔ ((g : List Items) → Within n f nos g → p g ≡ true)
all_within p n f nos fits = (
  λ h g a.
      sym (ap (λ b. not b || p g) (within-passes n f nos g a))
      ∙ all_sublists-each (λ g. not (passes n nos g) || p g) f fits.is_family.in_order (sym (list_all-filter p (passes n nos) (sublists f)) ∙ h) g a.in_order a.compatible,
  λ h. list_all-filter p (passes n nos) (sublists f)
      ∙ All-list_all (λ g. not (passes n nos g) || p g) (sublists f)
      (sublists-each (λ g. (not (passes n nos g) || p g) ≡ true) f fits.is_family.in_order (λ g order part. either (passes n nos g) (p g) (λ e. h g (within-from n f nos g fits order part e)))),
)

-- the family is one of them
itself : (n : ℕ) (f : List Items) (nos : List No) → FitsNos n f nos → Within n f nos f
itself n f nos fits = record {
  in_order = fits.is_family.in_order;
  is_family = family_sets n f fits.is_family;
  holds_full = fits.holds_full;
  compatible = λ k c. c;
  broken = list_all-All (some_breaks f) (map query_of nos) (list_all-map (some_breaks f) query_of nos ∙ fits.are_broken);
}

-- ---- what is forced, by closures

yes_is : (n : ℕ) (f : List Items) (nos : List No) (r : Query) → FitsNos n f nos → is_good n r ≡ true → is_forced_yes (spaces_within n f nos) r ≡ has (closure (full n) f r.a) r.q
yes_is n f nos r fits good =
    let family = family_sets n f fits.is_family in
    let search = all_within (λ g. not (some_breaks g r)) n f nos fits in
    let same = forced_yes n f (map query_of nos) r f fits.is_family.in_order family (itself n f nos fits) in
    same_truth (is_forced_yes (spaces_within n f nos) r) (not (some_breaks f r))
    (λ h. not_from_false (some_breaks f r) (same.0 (λ g a. not-true (some_breaks g r) (search.0 h g a))))
    (λ h. search.1 (λ g a. not_from_false (some_breaks g r) (same.1 (not-true (some_breaks f r) h) g a)))
    ∙ sym (has-closure n f r family.small (good-from n r good).item)

no_is : (n : ℕ) (f : List Items) (nos : List No) (r : Query) → FitsNos n f nos → is_good n r ≡ true → is_forced_no (spaces_within n f nos) r ≡ list_any (λ a. is_forced_by f r a.query) nos
no_is n f nos r fits good =
    let search = all_within (λ g. some_breaks g r) n f nos fits in
    let same = forced_no n f (map query_of nos) r fits.is_family.in_order (family_sets n f fits.is_family) fits.holds_full (good-from n r good) in
    same_truth (is_forced_no (spaces_within n f nos) r) (list_any (is_forced_by f r) (map query_of nos)) (λ h. same.0 (search.0 h)) (λ h. search.1 (same.1 h))
    ∙ sym (list_any-map query_of (is_forced_by f r) nos)

not_both : (n : ℕ) (f : List Items) (nos : List No) (r : Query) → FitsNos n f nos → is_forced_no (spaces_within n f nos) r ≡ true → is_forced_yes (spaces_within n f nos) r ≡ false
not_both n f nos r fits h = false_from_ne_true (is_forced_yes (spaces_within n f nos) r) (λ a.
    let broken = (all_within (λ g. some_breaks g r) n f nos fits).0 h f (itself n f nos fits) in
    let unbroken = (all_within (λ g. not (some_breaks g r)) n f nos fits).0 a f (itself n f nos fits) in
    let z : true ≡ false = sym broken ∙ not-true (some_breaks f r) unbroken in
    true≢false z)

forcing-same : (n : ℕ) (f : List Items) (r : Query) (nos : List No) → IsUnionFamily n f → IsGood n r → list_all (λ a. is_good n a.query) nos ≡ true → list_all (λ a. some_breaks f a.query) nos ≡ true
    → filter (λ a. is_forced_by_closures n f r a.query) nos ≡ filter (λ a. is_forced_by f r a.query) nos
forcing-same n f r [] family good items broken = refl
forcing-same n f r (s ∷ nos) family good items broken =
    let a = and_parts (is_good n s.query) (list_all (λ a. is_good n a.query) nos) items in
    let b = and_parts (some_breaks f s.query) (list_all (λ a. some_breaks f a.query) nos) broken in
    ap₂ (λ c l. cond c (s ∷ l) l) (sym (kept_is n f r s.query family good (good-from n s.query a.0).item b.0)) (forcing-same n f r nos family good a.1 b.1)

-- ---- what is told

-- some No is left exactly where there is a least
some_least : (p : No → Bool) (nos : List No) → list_any p nos ≡ is_some (option_map (λ a. a.number) (first_least (λ a. a.number) (filter p nos)))
some_least p nos = left p nos ∙ ap is_some (least_with-first (λ a. a.number) (filter p nos))
  where
    left : (p : No → Bool) (nos : List No) → list_any p nos ≡ is_some (least_with None (map (λ a. a.number) (filter p nos)))
    left p [] = refl
    left p (s ∷ nos) = elim (p s) as (λ b. (b || list_any p nos) ≡ is_some (least_with None (map (λ a. a.number) (cond b (s ∷ filter p nos) (filter p nos))))) [
      | true ↦ sym (ap is_some (least_with-parts (λ a. a.number) (filter p nos) s.number).1)
      | false ↦ left p nos
    ]

abbrev least_of : List Items → Query → List No → Option ℕ
least_of f r nos = option_map (λ a. a.number) (first_least (λ a. a.number) (filter (λ a. is_forced_by f r a.query) nos))

numbered : (o : Option No) → option_map_or (λ a. Known.No a.number) o Known.Unsettled ≡ option_map_or (λ m. Known.No m) (option_map (λ a. a.number) o) Known.Unsettled
numbered None = refl
numbered (Some a) = refl

-- by what is forced Yes, and the least number
told-by : (n : ℕ) (f : List Items) (nos : List No) (r : Query) → FitsNos n f nos → is_good n r ≡ true
    → told n f nos r ≡ cond (is_forced_yes (spaces_within n f nos) r) Known.Yes (option_map_or (λ m. Known.No m) (least_of f r nos) Known.Unsettled)
told-by n f nos r fits good =
    ap₂ (λ b as'. cond b Known.Yes (option_map_or (λ a. Known.No a.number) (first_least (λ a. a.number) as') Known.Unsettled))
    (sym (yes_is n f nos r fits good))
    (forcing-same n f r nos (family_sets n f fits.is_family) (good-from n r good) fits.are_good fits.are_broken)
    ∙ ap (cond (is_forced_yes (spaces_within n f nos) r) Known.Yes) (numbered (first_least (λ a. a.number) (filter (λ a. is_forced_by f r a.query) nos)))

forced_no-least : (n : ℕ) (f : List Items) (nos : List No) (r : Query) → FitsNos n f nos → is_good n r ≡ true → is_forced_no (spaces_within n f nos) r ≡ is_some (least_of f r nos)
forced_no-least n f nos r fits good = no_is n f nos r fits good ∙ some_least (λ a. is_forced_by f r a.query) nos

-- the cases of what is told, of what is forced Yes or not, and of the least number
yes_tells : (b : Bool) (o : Option ℕ) → (cond b Known.Yes (option_map_or (λ m. Known.No m) o Known.Unsettled) ≡ Known.Yes) ↔ (b ≡ true)
yes_tells true o = (λ _. refl, λ _. refl)
yes_tells false None = (λ e. absurd (let z : ⊥ = cc in z), λ e. absurd (true≢false (sym e)))
yes_tells false (Some m) = (λ e. absurd (let z : ⊥ = cc in z), λ e. absurd (true≢false (sym e)))

no_tells : (b : Bool) (o : Option ℕ) → (is_some o ≡ true → b ≡ false) → ((m : ℕ) × (cond b Known.Yes (option_map_or (λ m. Known.No m) o Known.Unsettled) ≡ Known.No m)) ↔ (is_some o ≡ true)
no_tells true None h = (λ e. absurd (let f = e.1 in let z : ⊥ = cc in z), λ e. absurd (true≢false (sym e)))
no_tells true (Some m) h = (λ _. refl, λ _. absurd (true≢false (h refl)))
no_tells false None h = (λ e. absurd (let f = e.1 in let z : ⊥ = cc in z), λ e. absurd (true≢false (sym e)))
no_tells false (Some m) h = (λ _. refl, λ _. (m, refl))

open_tells : (b : Bool) (o : Option ℕ) → (cond b Known.Yes (option_map_or (λ m. Known.No m) o Known.Unsettled) ≡ Known.Unsettled) ↔ ((not b && not (is_some o)) ≡ true)
open_tells true o = (λ e. absurd (let z : ⊥ = cc in z), λ e. absurd (true≢false (sym e)))
open_tells false None = (λ _. refl, λ _. refl)
open_tells false (Some m) = (λ e. absurd (let z : ⊥ = cc in z), λ e. absurd (true≢false (sym e)))

number_tells : (b : Bool) (o : Option ℕ) (m : ℕ) → cond b Known.Yes (option_map_or (λ m. Known.No m) o Known.Unsettled) ≡ Known.No m → o ≡ Some m
number_tells true o m e = absurd (let z : ⊥ = cc in z)
number_tells false None m e = absurd (let z : ⊥ = cc in z)
number_tells false (Some k) m e = let same : k ≡ m = cc in ap Some same

pub told_yes : (n : ℕ) (f : List Items) (nos : List No) (r : Query) → FitsNos n f nos → is_good n r ≡ true → (told n f nos r ≡ Known.Yes) ↔ (is_forced_yes (spaces_within n f nos) r ≡ true)
told_yes n f nos r fits good = subst (λ k. (k ≡ Known.Yes) ↔ (is_forced_yes (spaces_within n f nos) r ≡ true)) (sym (told-by n f nos r fits good)) (yes_tells (is_forced_yes (spaces_within n f nos) r) (least_of f r nos))

pub told_no : (n : ℕ) (f : List Items) (nos : List No) (r : Query) → FitsNos n f nos → is_good n r ≡ true → ((m : ℕ) × (told n f nos r ≡ Known.No m)) ↔ (is_forced_no (spaces_within n f nos) r ≡ true)
told_no n f nos r fits good =
    let least = forced_no-least n f nos r fits good in
    let tells = no_tells (is_forced_yes (spaces_within n f nos) r) (least_of f r nos) (λ h. not_both n f nos r fits (least ∙ h)) in
    let same = told-by n f nos r fits good in
    (λ h. least ∙ tells.0 (h.0, sym same ∙ h.1), λ h. let m = tells.1 (sym least ∙ h) in (m.0, same ∙ m.1))

pub told_open : (n : ℕ) (f : List Items) (nos : List No) (r : Query) → FitsNos n f nos → is_good n r ≡ true → (told n f nos r ≡ Known.Unsettled) ↔ (is_open (spaces_within n f nos) r ≡ true)
told_open n f nos r fits good =
    let tells = open_tells (is_forced_yes (spaces_within n f nos) r) (least_of f r nos) in
    let same = told-by n f nos r fits good in
    let open' = ap (λ b. not (is_forced_yes (spaces_within n f nos) r) && not b) (forced_no-least n f nos r fits good) in
    (λ h. open' ∙ tells.0 (sym same ∙ h), λ h. same ∙ tells.1 (sym open' ∙ h))

pub told_number : (n : ℕ) (f : List Items) (nos : List No) (r : Query) (m : ℕ) → FitsNos n f nos → is_good n r ≡ true → told n f nos r ≡ Known.No m → least_of f r nos ≡ Some m
told_number n f nos r m fits good h = number_tells (is_forced_yes (spaces_within n f nos) r) (least_of f r nos) m (sym (told-by n f nos r fits good) ∙ h)
