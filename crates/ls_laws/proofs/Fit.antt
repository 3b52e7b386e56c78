-- Where some space fits, the compatible sets fit, and what is left decides what is forced No.
use Rattle.ls_laws.proofs.Vocabulary.{◌||◌, ◌↔◌, ◌∙◌, ◌∷◌, ◌≡◌, ◌≤◌, ◌⊎◌, AllByRecursion, IsInOrder, IsPart, Items, List, Query, ℕ, [], breaks, cases_Bool, each, false, false_from_ne_true, full, inl, inr, is_among, is_forced_by, left_by, len, list_any, not, refl, some_breaks, sym, true, true≢false}
use Rattle.ls_laws.proofs.Lists.{IsInOrder-filter}
use Rattle.ls_laws.proofs.Interiors.{IsUnionFamily}
use Rattle.ls_laws.proofs.Breaks.{IsGood, full-unbroken, some_breaks-here, some_breaks-part, among-left_from, among-left_parts, left-unbroken}
use Rattle.ls_laws.proofs.Closures.{left-IsUnionFamily}

-- a space whose members are compatible, and of which some member breaks each No
pub record Fits (n : ℕ) (compat : List Items) (nos : List Query) (f : List Items) : Type 0 where
  pub in_order : IsInOrder f
  pub is_family : IsUnionFamily n f
  pub holds_full : is_among f (full n) ≡ true
  pub compatible : IsPart f compat
  pub broken : AllByRecursion (λ r. some_breaks f r ≡ true) nos

-- no fitting space has a member that breaks it
abbrev pub IsForcedYes : ℕ → List Items → List Query → Query → Type 0
IsForcedYes n compat nos r = (f : List Items) → Fits n compat nos f → some_breaks f r ≡ false

-- every fitting space has one
abbrev pub IsForcedNo : ℕ → List Items → List Query → Query → Type 0
IsForcedNo n compat nos r = (f : List Items) → Fits n compat nos f → some_breaks f r ≡ true

-- each good query whose A has at most as many items as the block is forced
abbrev pub IsSettled : ℕ → ℕ → List Items → List Query → Type 0
IsSettled n block compat nos = (r : Query) → IsGood n r → len r.a ≤ block → IsForcedYes n compat nos r ⊎ IsForcedNo n compat nos r

-- ---- the compatible sets

All-broken_part : (f g : List Items) (nos : List Query) → IsPart f g → AllByRecursion (λ r. some_breaks f r ≡ true) nos → AllByRecursion (λ r. some_breaks g r ≡ true) nos
All-broken_part f g nos part h = each (λ r. some_breaks-part f g r part) nos h

-- where some space fits, the compatible sets do
pub compat_fits : (n : ℕ) (compat : List Items) (nos : List Query) (f : List Items) → IsInOrder compat → IsUnionFamily n compat → Fits n compat nos f → Fits n compat nos compat
compat_fits n compat nos f order family fits = record {
  in_order = order;
  is_family = family;
  holds_full = fits.compatible (full n) fits.holds_full;
  compatible = λ k c. c;
  broken = All-broken_part f compat nos fits.compatible fits.broken;
}

-- ---- what is left

pub left-holds_full : (n : ℕ) (f : List Items) (r : Query) → IsGood n r → is_among f (full n) ≡ true → is_among (left_by r f) (full n) ≡ true
left-holds_full n f r good c = among-left_from f r (full n) c (full-unbroken n r good)

-- whether each No is broken, or one is broken by no member
pub all_or_none : (f : List Items) (nos : List Query) → list_any (λ s. not (some_breaks f s)) nos ≡ false → AllByRecursion (λ s. some_breaks f s ≡ true) nos
all_or_none f [] h = tt
all_or_none f (s ∷ nos) h =
    elim (some_breaks f s) as (λ b. some_breaks f s ≡ b → (not b || list_any (λ s. not (some_breaks f s)) nos) ≡ false → AllByRecursion (λ s. some_breaks f s ≡ true) (s ∷ nos)) [
      | true ↦ λ e h. (e, all_or_none f nos h)
      | false ↦ λ _ h. absurd (true≢false h)
    ] refl h

none_or_all : (f : List Items) (nos : List Query) → AllByRecursion (λ s. some_breaks f s ≡ true) nos → list_any (λ s. not (some_breaks f s)) nos ≡ false
none_or_all f [] h = refl
none_or_all f (s ∷ nos) h = rw h.0 (none_or_all f nos h.1)

-- what is left fits where its members break each No
left-Fits : (n : ℕ) (compat : List Items) (nos : List Query) (r : Query) → IsInOrder compat → IsUnionFamily n compat → is_among compat (full n) ≡ true → IsGood n r
    → AllByRecursion (λ s. some_breaks (left_by r compat) s ≡ true) nos → Fits n compat nos (left_by r compat)
left-Fits n compat nos r order family holds good broken = record {
  in_order = IsInOrder-filter (λ k. not (breaks k r)) compat order;
  is_family = left-IsUnionFamily n compat r family;
  holds_full = left-holds_full n compat r good holds;
  compatible = λ k c. (among-left_parts compat r k c).0;
  broken = broken;
}

-- what is left fits exactly where some fitting space has no member that breaks the query
pub left_fits : (n : ℕ) (compat : List Items) (nos : List Query) (r : Query) → IsInOrder compat → IsUnionFamily n compat → is_among compat (full n) ≡ true → IsGood n r
    → Fits n compat nos (left_by r compat) ↔ ((f : List Items) × Fits n compat nos f × (some_breaks f r ≡ false))
left_fits n compat nos r order family holds good = (
  λ h. (left_by r compat, h, left-unbroken compat r),
  λ h. left-Fits n compat nos r order family holds good
      (All-broken_part h.0 (left_by r compat) nos
      (λ k c. among-left_from compat r k (h.1.compatible k c) (false_from_ne_true (breaks k r) (λ b. true≢false (sym (some_breaks-here h.0 k r c b) ∙ h.2))))
      h.1.broken),
)

-- a good query is forced No exactly where some No is broken by no member of what is left
pub forced_no : (n : ℕ) (compat : List Items) (nos : List Query) (r : Query) → IsInOrder compat → IsUnionFamily n compat → is_among compat (full n) ≡ true → IsGood n r
    → IsForcedNo n compat nos r ↔ (list_any (is_forced_by compat r) nos ≡ true)
forced_no n compat nos r order family holds good = (
  λ forced. elim (cases_Bool (list_any (is_forced_by compat r) nos)) [
    | inl a ↦ a
    | inr b ↦
        let rest = left-Fits n compat nos r order family holds good (all_or_none (left_by r compat) nos b) in
        absurd (true≢false (sym (forced (left_by r compat) rest) ∙ left-unbroken compat r))
  ],
  λ kept f fits. elim (cases_Bool (some_breaks f r)) [
    | inl a ↦ a
    | inr b ↦ absurd (true≢false (sym kept ∙ none_or_all (left_by r compat) nos ((left_fits n compat nos r order family holds good).1 (f, fits, b)).broken))
  ],
)

-- ---- forced Yes, and not both

pub forced_yes : (n : ℕ) (compat : List Items) (nos : List Query) (r : Query) (f : List Items) → IsInOrder compat → IsUnionFamily n compat → Fits n compat nos f → IsForcedYes n compat nos r ↔ (some_breaks compat r ≡ false)
forced_yes n compat nos r f order family fits = (
  λ h. h compat (compat_fits n compat nos f order family fits),
  λ none g h. false_from_ne_true (some_breaks g r) (λ b. true≢false (sym (some_breaks-part g compat r h.compatible b) ∙ none)),
)
