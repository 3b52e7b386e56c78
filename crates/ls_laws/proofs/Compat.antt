-- The compatible sets are a family, whatever the start.
use Rattle.ls_laws.proofs.Vocabulary.{◌&&◌, ◌++◌, ◌∙◌, ◌∷◌, ◌≡◌, Bool, Decides-is_same, IsInOrder, IsWithin, IsWithin-from, Items, List, Query, ℕ, [], among-filter, among-subsets, and-true, and_assoc, and_from, and_parts, ap, bound, breaks, breaks_none, compat, each-in, empty, filter-both, filter_agree, full, has, has-union, inl, inr, interior, is_among, is_compatible, is_good, is_space, is_within, is_within-from, items, left_by, list_all, list_all-All, list_all-append, list_all-kept, list_any, not, numbers_from, or_cases, refl, slice_index_or, subsets, subsets_from-in_order, sym, true, union, union-left, union-right}
use Rattle.ls_laws.proofs.Listed.{in-items}
use Rattle.ls_theory.specs.Starts.{Start, Free, Clauses, Sets, meets}
use Rattle.ls_laws.proofs.Lists.{some-among, some-from, IsInOrder-filter}
use Rattle.ls_laws.proofs.Interiors.{IsUnionFamily, subsets-IsUnionFamily, filter-IsUnionFamily, space-from, space-to}
use Rattle.ls_laws.proofs.Spans.{interior-empty, interior-union}
use Rattle.ls_laws.proofs.Breaks.{breaks_none-empty, breaks_none-union, IsGood, breaks-empty, full-unbroken, unbroken-union, among-left_from, among-left_parts, breaks_none-full}

-- ---- each item of a set

pub items-all : (p : ℕ → Bool) (k : Items) → ((q : ℕ) → has k q ≡ true → p q ≡ true) → list_all p (items k) ≡ true
unfolding items
items-all p k h = list_all-kept (has k) p (numbers_from 0 (bound k)) h

pub all-items : (p : ℕ → Bool) (k : Items) (q : ℕ) → list_all p (items k) ≡ true → has k q ≡ true → p q ≡ true
all-items p k q h a = each-in (λ j. p j ≡ true) (items k) q (list_all-All p (items k) h) (in-items k q a)

-- ---- the sets of a start

-- some clause lies within the set
abbrev some_clause : List (List Items) → ℕ → Items → Bool
some_clause clauses q k = list_any (λ c. is_within c k) (slice_index_or clauses q [])

some_clause-within : (clauses : List (List Items)) (q : ℕ) (s t : Items) → IsWithin s t → some_clause clauses q s ≡ true → some_clause clauses q t ≡ true
some_clause-within clauses q s t w h =
    let r = some-from (λ c. is_within c s) (slice_index_or clauses q []) h in
    some-among (λ c. is_within c t) (slice_index_or clauses q []) r.0 r.1 (is_within-from r.0 t (λ i a. w i (IsWithin-from r.0 s r.2 i a)))

items-empty : items empty ≡ []
unfolding items bound empty
items-empty = refl

meets-empty : (start : Start) → meets start empty ≡ true
meets-empty Free = refl
meets-empty (Clauses clauses) = ap (λ is. list_all (λ q. some_clause clauses q empty) is) items-empty
meets-empty (Sets sets) = (Decides-is_same (interior sets empty) empty).1 (interior-empty sets)

meets-union : (start : Start) (s t : Items) → meets start s ≡ true → meets start t ≡ true → meets start (union s t) ≡ true
meets-union Free s t a b = refl
meets-union (Clauses clauses) s t a b = items-all (λ q. some_clause clauses q (union s t)) (union s t) (λ q h.
    elim (or_cases (has s q) (has t q) (sym (has-union s t q) ∙ h)) [
      | inl x ↦ some_clause-within clauses q s (union s t) (union-left s t) (all-items (λ q. some_clause clauses q s) s q a x)
      | inr x ↦ some_clause-within clauses q t (union s t) (union-right s t) (all-items (λ q. some_clause clauses q t) t q b x)
    ])
meets-union (Sets sets) s t a b =
    (Decides-is_same (interior sets (union s t)) (union s t)).1 (interior-union sets s t ((Decides-is_same (interior sets s) s).0 a) ((Decides-is_same (interior sets t) t).0 b))

-- ---- the compatible sets

pub compat-IsUnionFamily : (n : ℕ) (start : Start) (yeses : List Query) → IsUnionFamily n (compat n start yeses)
unfolding compat
compat-IsUnionFamily n start yeses = filter-IsUnionFamily n (subsets n) (is_compatible start yeses)
    (and_from (meets start empty) (breaks_none yeses empty) (meets-empty start) (breaks_none-empty yeses))
    (λ s t a b.
    let x = and_parts (meets start s) (breaks_none yeses s) a in
    let y = and_parts (meets start t) (breaks_none yeses t) b in
    and_from (meets start (union s t)) (breaks_none yeses (union s t)) (meets-union start s t x.0 y.0) (breaks_none-union yeses s t x.1 y.1))
    (subsets-IsUnionFamily n)

pub compat-in_order : (n : ℕ) (start : Start) (yeses : List Query) → IsInOrder (compat n start yeses)
unfolding compat
compat-in_order n start yeses = IsInOrder-filter (is_compatible start yeses) (subsets n) (subsets_from-in_order 0 n)

pub among-compat : (n : ℕ) (start : Start) (yeses : List Query) (k : Items) → is_among (compat n start yeses) k ≡ (is_within k (full n) && is_compatible start yeses k)
unfolding compat
among-compat n start yeses k = among-filter (is_compatible start yeses) (subsets n) k ∙ ap (λ b. b && is_compatible start yeses k) (among-subsets n k)

-- after a Yes, what is left are the compatible sets
pub compat-more : (n : ℕ) (start : Start) (yeses : List Query) (r : Query) → compat n start (yeses ++ (r ∷ [])) ≡ left_by r (compat n start yeses)
unfolding compat
compat-more n start yeses r =
    filter_agree (is_compatible start (yeses ++ (r ∷ []))) (λ k. is_compatible start yeses k && not (breaks k r)) (λ k.
    ap (λ b. meets start k && b) (list_all-append (λ r. not (breaks k r)) yeses (r ∷ []) ∙ ap (λ b. breaks_none yeses k && b) (and-true (not (breaks k r))))
    ∙ sym (and_assoc (meets start k) (breaks_none yeses k) (not (breaks k r)))) (subsets n)
    ∙ sym (filter-both (is_compatible start yeses) (λ k. not (breaks k r)) (subsets n))

-- ---- spaces

pub compat-space : (n : ℕ) (start : Start) (yeses : List Query) → meets start (full n) ≡ true → list_all (is_good n) yeses ≡ true → is_space (full n) (compat n start yeses) ≡ true
compat-space n start yeses h good =
    let family = compat-IsUnionFamily n start yeses in
    space-to (full n) (compat n start yeses) family.holds_empty
    (among-compat n start yeses (full n) ∙ and_from (is_within (full n) (full n)) (is_compatible start yeses (full n)) (is_within-from (full n) (full n) (λ i a. a))
    (and_from (meets start (full n)) (breaks_none yeses (full n)) h (breaks_none-full n yeses good)))
    family.holds_unions

-- a start whose sets are a space
pub start-space : (n : ℕ) (start : Start) (yeses : List Query) → is_space (full n) (compat n start []) ≡ true → list_all (is_good n) yeses ≡ true → is_space (full n) (compat n start yeses) ≡ true
start-space n start yeses h good =
    let s = space-from (full n) (compat n start []) h in
    let a = and_parts (is_within (full n) (full n)) (is_compatible start [] (full n)) (sym (among-compat n start [] (full n)) ∙ s.holds_whole) in
    compat-space n start yeses (and_parts (meets start (full n)) true a.1).0 good

-- what a Yes to a good query leaves of a space
pub left-space : (n : ℕ) (f : List Items) (r : Query) → IsGood n r → is_space (full n) f ≡ true → is_space (full n) (left_by r f) ≡ true
left-space n f r good h =
    let s = space-from (full n) f h in
    space-to (full n) (left_by r f) (among-left_from f r empty s.holds_empty (breaks-empty r)) (among-left_from f r (full n) s.holds_whole (full-unbroken n r good)) (λ t u a b.
    let x = among-left_parts f r t a in
    let y = among-left_parts f r u b in
    among-left_from f r (union t u) (s.holds_unions t u x.0 y.0) (unbroken-union t u r x.1 y.1))
