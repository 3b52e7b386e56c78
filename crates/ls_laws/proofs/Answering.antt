-- What the search finds known is what the closures tell.
use Rattle.ls_laws.proofs.Vocabulary.{◌&&◌, ◌-◌, ◌<◌, ◌||◌, ◌↔◌, ◌∙◌, ◌∷◌, ◌≡◌, AllByRecursion, Answer, Bool, FitsAnswers, Interview, IsSound, Items, List, No, None, Query, Some, SomeFits, ℕ, [], and_cases, and_parts, ap, ap₂, by, cases_Bool, closure, compatible_sets, cond, false, false_from_ne_true, families, filter, filter_true, find, find-is_none, fits, fitting_spaces, full, has, inl, inr, is_forced_by, is_forced_by_closures, is_forced_no, is_forced_yes, is_good, is_open, is_settled, known, known_by_closures, left_by, list_all, list_any, list_any-map, map, max, next_question, no_queries, nos, not, not-false, not-true, not_from_false, option_map, queries, refl, same_truth, some_breaks, spaces_of, subsets, subsets_from-in_order, subst, sym, true, unwrap_or, yes_queries}
use Rattle.std.specs.Option.{option_map_or}
use Rattle.ls_theory.specs.declared.known.Known.{Known}
use Rattle.ls_laws.proofs.Interiors.{IsUnionFamily}
use Rattle.ls_laws.proofs.Breaks.{IsGood, good-from}
use Rattle.ls_laws.proofs.Closures.{has-closure, kept_is}
use Rattle.ls_laws.proofs.Compat.{compat-IsUnionFamily, compat-in_order}
use Rattle.ls_laws.proofs.Fit.{Fits, IsForcedYes, IsForcedNo, IsSettled, compat_fits, forced_yes, forced_no, left_fits}
use Rattle.ls_laws.proofs.Settled.{only_compat}
use Rattle.ls_laws.proofs.Search.{fits-from, fits-is, all_fitting, some_fitting, subsets-AreOn, AreOn-subsets}
use Rattle.ls_laws.proofs.Least.{told-any}
use Rattle.ls_laws.proofs.Only.{filter_only}
use Rattle.ls_laws.proofs.Blocks.{some_in_blocks}

-- f fits the interview
abbrev pub FitsIn : Interview → List Items → Type 0
FitsIn i f = Fits i.count (compatible_sets i) (no_queries i.answers) f

pub a_space : (i : Interview) → SomeFits i → (f : List Items) × FitsIn i f
a_space i h = some_fitting i.count i.start (yes_queries i.answers) (no_queries i.answers) h

-- the relation of a fitting space is that of the definition
pub FitsIn-from : (i : Interview) (f : List Items) → FitsAnswers i f → FitsIn i f
FitsIn-from i f h = fits-is i.count i.start (yes_queries i.answers) (no_queries i.answers) f h.in_order h.is_on h.passes

pub FitsIn-to : (i : Interview) (f : List Items) → FitsIn i f → FitsAnswers i f
FitsIn-to i f h = record { in_order = h.in_order; is_on = h.is_family.small; passes = fits-from i.count i.start (yes_queries i.answers) (no_queries i.answers) f h }

pub compat_family : (i : Interview) → IsUnionFamily i.count (compatible_sets i)
compat_family i = compat-IsUnionFamily i.count i.start (yes_queries i.answers)

-- where some space fits, the compatible sets do
pub compatible_fit : (i : Interview) → SomeFits i → FitsIn i (compatible_sets i)
compatible_fit i h = let g = a_space i h in compat_fits i.count (compatible_sets i) (no_queries i.answers) g.0 (compat-in_order i.count i.start (yes_queries i.answers)) (compat_family i) g.1

-- ---- the search and the statement

pub all_spaces : (p : List Items → Bool) (i : Interview) → (list_all p (spaces_of i) ≡ true) ↔ ((f : List Items) → FitsIn i f → p f ≡ true)
all_spaces p i = all_fitting p i.count i.start (yes_queries i.answers) (no_queries i.answers)

pub forced_yes_search : (i : Interview) (r : Query) → (is_forced_yes (spaces_of i) r ≡ true) ↔ IsForcedYes i.count (compatible_sets i) (no_queries i.answers) r
forced_yes_search i r =
    let all = all_spaces (λ f. not (some_breaks f r)) i in (
      λ h f a. not-true (some_breaks f r) (all.0 h f a),
      λ h. all.1 (λ f a. not_from_false (some_breaks f r) (h f a)),
    )

pub forced_no_search : (i : Interview) (r : Query) → (is_forced_no (spaces_of i) r ≡ true) ↔ IsForcedNo i.count (compatible_sets i) (no_queries i.answers) r
forced_no_search i r = all_spaces (λ f. some_breaks f r) i

-- ---- the search and the compatible sets

pub forced_yes_unbroken : (i : Interview) (r : Query) → SomeFits i → is_forced_yes (spaces_of i) r ≡ not (some_breaks (compatible_sets i) r)
forced_yes_unbroken i r some =
    let search = forced_yes_search i r in
    let g = a_space i some in
    let same = forced_yes i.count (compatible_sets i) (no_queries i.answers) r g.0 (compat-in_order i.count i.start (yes_queries i.answers)) (compat_family i) g.1 in
    same_truth (is_forced_yes (spaces_of i) r) (not (some_breaks (compatible_sets i) r))
    (λ h. not_from_false (some_breaks (compatible_sets i) r) (same.0 (search.0 h)))
    (λ h. search.1 (same.1 (not-true (some_breaks (compatible_sets i) r) h)))

pub forced_yes_is : (i : Interview) (r : Query) → SomeFits i → r.q < i.count → is_forced_yes (spaces_of i) r ≡ has (closure (full i.count) (compatible_sets i) r.a) r.q
forced_yes_is i r some item = forced_yes_unbroken i r some ∙ sym (has-closure i.count (compatible_sets i) r (compat_family i).small item)

pub forced_no_is : (i : Interview) (r : Query) → SomeFits i → is_good i.count r ≡ true → is_forced_no (spaces_of i) r ≡ list_any (is_forced_by (compatible_sets i) r) (no_queries i.answers)
forced_no_is i r some good =
    let search = forced_no_search i r in
    let g = compatible_fit i some in
    let same = forced_no i.count (compatible_sets i) (no_queries i.answers) r (compat-in_order i.count i.start (yes_queries i.answers)) (compat_family i) g.holds_full (good-from i.count r good) in
    same_truth (is_forced_no (spaces_of i) r) (list_any (is_forced_by (compatible_sets i) r) (no_queries i.answers)) (λ h. same.0 (search.0 h)) (λ h. search.1 (same.1 h))

-- what is left fits where some space that fits has no member that breaks the query
pub left_decides : (i : Interview) (r : Query) → SomeFits i → is_good i.count r ≡ true → FitsAnswers i (left_by r (compatible_sets i)) ↔ ((f : List Items) × FitsAnswers i f × (some_breaks f r ≡ false))
left_decides i r some good =
    let g = compatible_fit i some in
    let same = left_fits i.count (compatible_sets i) (no_queries i.answers) r g.in_order g.is_family g.holds_full (good-from i.count r good) in (
      λ h. let f = same.0 (FitsIn-from i (left_by r (compatible_sets i)) h) in (f.0, FitsIn-to i f.0 f.1, f.2),
      λ f. FitsIn-to i (left_by r (compatible_sets i)) (same.1 (f.0, FitsIn-from i f.0 f.1, f.2)),
    )

-- never both
pub not_both : (i : Interview) (r : Query) → SomeFits i → (is_forced_yes (spaces_of i) r && is_forced_no (spaces_of i) r) ≡ false
not_both i r some = false_from_ne_true (is_forced_yes (spaces_of i) r && is_forced_no (spaces_of i) r) (λ h.
    let p = and_parts (is_forced_yes (spaces_of i) r) (is_forced_no (spaces_of i) r) h in
    let g = a_space i some in
    let z : true ≡ false = sym ((forced_no_search i r).0 p.1 g.0 g.1) ∙ (forced_yes_search i r).0 p.0 g.0 g.1 in
    cc)

-- ---- the Nos, with their numbers

pub queries_of_nos : (answers : List Answer) → no_queries answers ≡ map (λ a. a.query) (nos answers)
queries_of_nos [] = refl
queries_of_nos (a ∷ answers) = elim (a.yes) as (λ b. map (λ a. a.query) (cond (not b) (a ∷ filter (λ a. not a.yes) answers) (filter (λ a. not a.yes) answers))
    ≡ map (λ (s : No). s.query) (map (λ (a : Answer). let s : No = record { number = a.number; query = a.query } in s) (cond (not b) (a ∷ filter (λ a. not a.yes) answers) (filter (λ a. not a.yes) answers)))) [
      | true ↦ queries_of_nos answers
      | false ↦ ap (λ l. a.query ∷ l) (queries_of_nos answers)
    ]

-- a No that passes is found where some query passes
tells : (p : Query → Bool) (ns : List No) → cond (list_any p (map (λ a. a.query) ns)) (Known.No (unwrap_or (option_map (λ a. a.number) (find (λ a. p a.query) ns)) 0)) Known.Unsettled
    ≡ option_map_or (λ a. Known.No a.number) (find (λ a. p a.query) ns) Known.Unsettled
tells p [] = refl
tells p (s ∷ ns) = elim (p s.query) as (λ b. cond (b || list_any p (map (λ a. a.query) ns)) (Known.No (unwrap_or (option_map (λ a. a.number) (cond b (Some s) (find (λ a. p a.query) ns))) 0)) Known.Unsettled
    ≡ option_map_or (λ a. Known.No a.number) (cond b (Some s) (find (λ a. p a.query) ns)) Known.Unsettled) [
      | true ↦ refl
      | false ↦ tells p ns
    ]

-- the Nos that are kept, by closures
kept_same : (n : ℕ) (f : List Items) (r : Query) (ns : List No) → IsUnionFamily n f → IsGood n r → list_all (is_good n) (map (λ a. a.query) ns) ≡ true → AllByRecursion (λ q. some_breaks f q ≡ true) (map (λ a. a.query) ns)
    → AllByRecursion (λ s. is_forced_by f r s.query ≡ is_forced_by_closures n f r s.query) ns
kept_same n f r [] family good items broken = tt
kept_same n f r (s ∷ ns) family good items broken =
    let a = and_parts (is_good n s.query) (list_all (is_good n) (map (λ a. a.query) ns)) items in
    (kept_is n f r s.query family good (good-from n s.query a.0).item broken.0, kept_same n f r ns family good a.1 broken.1)

same_find : (p q : No → Bool) (ns : List No) → AllByRecursion (λ s. p s ≡ q s) ns → find p ns ≡ find q ns
same_find p q [] h = refl
same_find p q (s ∷ ns) h = ap₂ (λ b o. cond b (Some s) o) h.0 (same_find p q ns h.1)

same_any : (p q : Query → Bool) (ns : List No) → AllByRecursion (λ s. p s.query ≡ q s.query) ns → list_any p (map (λ a. a.query) ns) ≡ list_any q (map (λ a. a.query) ns)
same_any p q [] h = refl
same_any p q (s ∷ ns) h = ap₂ (λ a b. a || b) h.0 (same_any p q ns h.1)

-- each standing No
each_kept : (i : Interview) (r : Query) → IsSound i → is_good i.count r ≡ true → AllByRecursion (λ s. is_forced_by (compatible_sets i) r s.query ≡ is_forced_by_closures i.count (compatible_sets i) r s.query) (nos i.answers)
each_kept i r sound good =
    let g = compatible_fit i sound.some_fits in
    kept_same i.count (compatible_sets i) r (nos i.answers) (compat_family i) (good-from i.count r good)
    (subst (λ qs. list_all (is_good i.count) qs ≡ true) (queries_of_nos i.answers) sound.are_good)
    (subst (AllByRecursion (λ q. some_breaks (compatible_sets i) q ≡ true)) (queries_of_nos i.answers) g.broken)

pub forced_no_by : (i : Interview) (r : Query) → IsSound i → is_good i.count r ≡ true → is_forced_no (spaces_of i) r ≡ list_any (is_forced_by_closures i.count (compatible_sets i) r) (no_queries i.answers)
forced_no_by i r sound good =
    let f = compatible_sets i in
    forced_no_is i r sound.some_fits good
    ∙ ap (list_any (is_forced_by f r)) (queries_of_nos i.answers)
    ∙ same_any (is_forced_by f r) (is_forced_by_closures i.count f r) (nos i.answers) (each_kept i r sound good)
    ∙ sym (ap (list_any (is_forced_by_closures i.count f r)) (queries_of_nos i.answers))

pub by_is : (i : Interview) (r : Query) → IsSound i → is_good i.count r ≡ true → by (compatible_sets i) (nos i.answers) r ≡ option_map (λ a. a.number) (find (λ a. is_forced_by_closures i.count (compatible_sets i) r a.query) (nos i.answers))
by_is i r sound good = ap (option_map (λ a. a.number)) (same_find (λ a. is_forced_by (compatible_sets i) r a.query) (λ a. is_forced_by_closures i.count (compatible_sets i) r a.query) (nos i.answers) (each_kept i r sound good))

-- what is known is what the closures tell
pub known_is : (i : Interview) (r : Query) → IsSound i → is_good i.count r ≡ true → known i r ≡ known_by_closures i r
unfolding known
known_is i r sound good =
    let f = compatible_sets i in
    ap₂ (λ a b. cond a Known.Yes b) (forced_yes_is i r sound.some_fits (good-from i.count r good).item)
    (ap (λ a. cond a (Known.No (unwrap_or (by f (nos i.answers) r) 0)) Known.Unsettled) (forced_no_is i r sound.some_fits good ∙ ap (list_any (is_forced_by f r)) (queries_of_nos i.answers))
    ∙ tells (is_forced_by f r) (nos i.answers)
    ∙ ap (λ o. option_map_or (λ a. Known.No a.number) o Known.Unsettled) (same_find (λ a. is_forced_by f r a.query) (λ a. is_forced_by_closures i.count f r a.query) (nos i.answers) (each_kept i r sound good)))

-- a forced No has a number
pub number_told : (i : Interview) (r : Query) → SomeFits i → is_good i.count r ≡ true → is_forced_no (spaces_of i) r ≡ true → (m : ℕ) × (by (compatible_sets i) (nos i.answers) r ≡ Some m)
number_told i r some good h =
    let p = is_forced_by (compatible_sets i) r in
    told-any (λ a. p a.query) (nos i.answers) (list_any-map (λ (a : No). a.query) p (nos i.answers) ∙ ap (list_any p) (sym (queries_of_nos i.answers)) ∙ sym (forced_no_is i r some good) ∙ h)

-- and it is the one that is told
pub number_known : (i : Interview) (r : Query) (m : ℕ) → SomeFits i → is_good i.count r ≡ true → known i r ≡ Known.No m → (is_forced_no (spaces_of i) r ≡ true) × (by (compatible_sets i) (nos i.answers) r ≡ Some m)
unfolding known
number_known i r m some good e =
    elim (cases_Bool (is_forced_yes (spaces_of i) r)) [
      | inl a ↦ absurd (let z : Known.Yes ≡ Known.No m = rw a at e in cc)
      | inr a ↦ elim (cases_Bool (is_forced_no (spaces_of i) r)) [
        | inr b ↦ absurd (let z : Known.Unsettled ≡ Known.No m = rw (a, b) at e in cc)
        | inl b ↦
            let told = number_told i r some good b in
            let z : Known.No (unwrap_or (by (compatible_sets i) (nos i.answers) r) 0) ≡ Known.No m = rw (a, b) at e in
            let same : unwrap_or (by (compatible_sets i) (nos i.answers) r) 0 ≡ m = cc in
            (b, told.1 ∙ ap Some (sym (ap (λ o. unwrap_or o 0) told.1) ∙ same))
      ]
    ]

-- ---- where nothing is open

pub settled_is : (i : Interview) → is_settled i ≡ true → IsSettled i.count i.block (compatible_sets i) (no_queries i.answers)
unfolding is_settled
settled_is i h r good few =
    let yes' = is_forced_yes (spaces_of i) r in
    let no' = is_forced_no (spaces_of i) r in
    let closed : is_open (spaces_of i) r ≡ false = false_from_ne_true (is_open (spaces_of i) r) (λ a.
    let z : true ≡ false = sym (some_in_blocks (is_open (spaces_of i)) i.count i.block r good few a) ∙ not-true (list_any (is_open (spaces_of i)) (queries i.count i.block)) h in cc) in
    elim (and_cases (not yes') (not no') closed) [
      | inl a ↦ inl ((forced_yes_search i r).0 (not-false yes' a))
      | inr a ↦ inr ((forced_no_search i r).0 (not-false no' a))
    ]

-- there is a first question exactly where some query is open
pub no_question : (i : Interview) → (is_settled i ≡ true) ↔ (next_question i None ≡ None)
unfolding is_settled next_question
no_question i = subst (λ qs. (not (list_any (is_open (spaces_of i)) (queries i.count i.block)) ≡ true) ↔ (find (is_open (spaces_of i)) qs ≡ None)) (sym (filter_true (queries i.count i.block))) (find-is_none (is_open (spaces_of i)) (queries i.count i.block))

-- exactly one space fits, and it is that of the compatible sets
pub settles : (i : Interview) → SomeFits i → i.block ≡ max 1 (i.count - 1) → is_settled i ≡ true → spaces_of i ≡ compatible_sets i ∷ []
unfolding fitting_spaces families
settles i some full_block settled =
    let n = i.count in
    let yeses = yes_queries i.answers in
    let ns = no_queries i.answers in
    let f = compatible_sets i in
    let g = a_space i some in
    let order = compat-in_order n i.start yeses in
    let only = only_compat n f ns g.0 order (compat_family i) g.1 (subst (λ block. IsSettled n block f ns) full_block (settled_is i settled)) in
    filter_only (fits n i.start yeses ns) (subsets n) (subsets_from-in_order 0 n) f (record {
      in_order = order;
      part = subsets-AreOn n f (compat_family i).small;
      passes = fits-from n i.start yeses ns f ((only f).1 refl);
      only = λ h k p e. (only h).0 (fits-is n i.start yeses ns h k (AreOn-subsets n h p) e);
    })
