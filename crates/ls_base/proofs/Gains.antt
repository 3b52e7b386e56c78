-- The base of what a Yes leaves: the sets that stay, and what is gained at each item.
use Rattle.ls_base.proofs.Vocabulary.{Bool, IsBelow, IsInOrder, IsInOrder-filter, Items, List, Query, [], ap, append-nil, ap₂, arith, atoms_at, base, breaks, broken_at, broken_in, cases_lt, cond, false, filter, filter-append, filter-both, filter_agree, gained, gained_at, gained_below, get_or, has, has-full, has-interior, has-minus, has_none_within, having, inl, inr, is_among, is_atom_at, is_gained, is_proper, is_same, is_within, joined, joins, least_beside, left_by, length, list_any, ltb-true, map, minus, near, not, refl, some_breaks, spanned, spanned-IsUnionFamily, spanned-in_order, subst, suc, sym, take, take_more, true, true≢false, union_below, zero, ℕ, ◌&&◌, ◌++◌, ◌+◌, ◌<◌, ◌∙◌, ◌∷◌, ◌≡◌}
use Rattle.std.proofs.Math.Bool.{and_comm}
use Rattle.ls_laws.proofs.Closures.{left-IsUnionFamily}
use Rattle.ls_laws.proofs.LeastSets.{among-either, among-left, among-right, below-through, some-filter, some-same}
use Rattle.ls_laws.proofs.AtomsAfter.{near-below, gained-where, base-list, base-same}
use Rattle.ls_base.specs.declared.left.Broken.{Broken}
use Rattle.ls_base.proofs.Spanned.{base-again, atoms_at-base}

-- ---- the items at which a set is an atom

regroup : (w s h : Bool) → (w && s && (w && h)) ≡ (h && w && s)
regroup true true true = refl
regroup true true false = refl
regroup true false true = refl
regroup true false false = refl
regroup false s true = refl
regroup false s false = refl

has-broken_in : (g : List Items) (k : Items) (i : ℕ) → has (minus k (union_below g k)) i ≡ is_atom_at g i k
has-broken_in g k i =
    has-minus k (union_below g k) i
    ∙ ap (λ b. has k i && not b) (has-interior (filter (λ l. is_proper l k) g) k i
    ∙ some-filter (λ l. is_proper l k) (λ l. is_within l k && has l i) g
    ∙ some-same (λ l. is_proper l k && (is_within l k && has l i)) (λ l. has l i && is_within l k && not (is_same l k)) g (λ l. regroup (is_within l k) (not (is_same l k)) (has l i)))

map-cond : (x : Broken) (b : Bool) (xs : List Broken) → map (λ b. b.set) (cond b (x ∷ xs) xs) ≡ cond b (x.set ∷ map (λ b. b.set) xs) (map (λ b. b.set) xs)
map-cond x true xs = refl
map-cond x false xs = refl

broken_at-map : (g : List Items) (i : ℕ) (ks : List Items) → broken_at i (map (broken_in g) ks) ≡ filter (is_atom_at g i) ks
broken_at-map g i [] = refl
broken_at-map g i (k ∷ ks) =
    map-cond (broken_in g k) (has (minus k (union_below g k)) i) (filter (λ b. has b.items i) (map (broken_in g) ks))
    ∙ ap₂ (λ b l. cond b (k ∷ l) l) (has-broken_in g k i) (broken_at-map g i ks)

-- the joins that are gained are least ones
gained-least : (staying js : List Items) → filter (λ k. has_none_within staying k && not (list_any (λ l. is_proper l k) js)) js ≡ least_beside staying js
gained-least staying js =
    filter_agree (λ k. has_none_within staying k && not (list_any (λ l. is_proper l k) js)) (λ k. not (list_any (λ l. is_proper l k) js) && has_none_within staying k) (λ k. and_comm (has_none_within staying k) (not (list_any (λ l. is_proper l k) js))) js
    ∙ sym (filter-both (λ k. not (list_any (λ l. is_proper l k) js)) (has_none_within staying) js)

-- the sets that break the query and are atoms at the item
broken_at-is : (g : List Items) (r : Query) (i : ℕ) → broken_at i (map (broken_in g) (filter (λ k. breaks k r) g)) ≡ filter (λ k. breaks k r) (atoms_at g i)
broken_at-is g r i =
    broken_at-map g i (filter (λ k. breaks k r) g)
    ∙ filter-both (λ k. breaks k r) (is_atom_at g i) g
    ∙ filter_agree (λ k. breaks k r && is_atom_at g i k) (λ k. is_atom_at g i k && breaks k r) (λ k. and_comm (breaks k r) (is_atom_at g i k)) g
    ∙ sym (filter-both (is_atom_at g i) (λ k. breaks k r) g)

gained_at-is : (f : List Items) (r : Query) (gs : List Items) (i : ℕ) → IsInOrder f → gained_at (left_by r (base f)) (map (broken_in (base f)) (filter (λ k. breaks k r) (base f))) gs i ≡ gained f r gs i
gained_at-is f r gs i order =
    ap (λ l. filter (is_gained (having i (left_by r (base f))) l gs) (joins l gs)) (broken_at-is (base f) r i ∙ ap (filter (λ k. breaks k r)) (atoms_at-base f i order))
    ∙ gained-least (having i (left_by r (base f))) (joined f r gs i)

-- ---- the sets that break the query, one by one

map-last : (g ks : List Items) (k : Items)
    → map (broken_in g) (ks ++ k ∷ []) ≡ map (broken_in g) ks ++ broken_in g k ∷ []
map-last g [] k = refl
map-last g (x ∷ ks) k = ap (λ l. broken_in g x ∷ l) (map-last g ks k)

module _ (g : List Items) (r : Query) (p : ℕ) (k : Items) (less : p < length g)
    (is : k ≡ get_or g p k) (got : List Broken)
    (had : got ≡ map (broken_in g) (filter (λ k. breaks k r) (take p g))) where
  one-more : filter (λ k. breaks k r) (take (p + 1) g)
      ≡ filter (λ k. breaks k r) (take p g) ++ cond (breaks k r) (k ∷ []) []
  one-more =
      ap (filter (λ k. breaks k r)) (take_more g p k less ∙ ap (λ s. take p g ++ s ∷ []) (sym is))
      ∙ filter-append (λ k. breaks k r) (take p g) (k ∷ [])

  pub broken-next : (made : Broken) → made ≡ broken_in g k → breaks k r ≡ true
      → got ++ made ∷ [] ≡ map (broken_in g) (filter (λ k. breaks k r) (take (p + 1) g))
  broken-next made e h =
      ap₂ (λ l b. l ++ b ∷ []) had e ∙ sym (map-last g (filter (λ k. breaks k r) (take p g)) k)
      ∙ sym (ap (map (broken_in g)) (one-more
      ∙ ap (λ b. filter (λ k. breaks k r) (take p g) ++ cond b (k ∷ []) []) h))

  pub broken-passed : breaks k r ≡ false
      → got ≡ map (broken_in g) (filter (λ k. breaks k r) (take (p + 1) g))
  broken-passed h = had ∙ sym (ap (map (broken_in g)) (one-more
      ∙ ap (λ b. filter (λ k. breaks k r) (take p g) ++ cond b (k ∷ []) []) h
      ∙ append-nil (filter (λ k. breaks k r) (take p g))))

-- ---- what is gained, item by item

among-below : (staying : List Items) (broken : List Broken) (near : List Items) (n i : ℕ) (k : Items) → i < n → is_among (gained_at staying broken near i) k ≡ true → is_among (gained_below staying broken near n) k ≡ true
among-below staying broken near zero i k l c = absurd (omega arith)
among-below staying broken near (suc n) i k l c = elim (cases_lt i n) [
  | inl m ↦ among-left (gained_below staying broken near n) (gained_at staying broken near n) k (among-below staying broken near n i k m c)
  | inr m ↦ among-right (gained_below staying broken near n) (gained_at staying broken near n) k (subst (λ j. is_among (gained_at staying broken near j) k ≡ true) (let e : i ≡ n = omega arith in e) c)
]

from-below : (staying : List Items) (broken : List Broken) (near : List Items) (n : ℕ) (k : Items) → is_among (gained_below staying broken near n) k ≡ true → (i : ℕ) × (is_among (gained_at staying broken near i) k ≡ true)
from-below staying broken near zero k c = absurd (true≢false (sym c))
from-below staying broken near (suc n) k c = elim (among-either (gained_below staying broken near n) (gained_at staying broken near n) k c) [
  | inl a ↦ from-below staying broken near n k a
  | inr a ↦ (n, a)
]

-- ---- the base

-- the sets that stay and what is gained, put in order
pub base-left : (n : ℕ) (b staying : List Items) (broken : List Broken) (gs list : List Items) (r : Query) → staying ≡ left_by r b → broken ≡ map (broken_in b) (filter (λ k. breaks k r) b) → IsBelow gs (near b r)
    → IsInOrder list → ((k : Items) → is_among list k ≡ is_among (staying ++ gained_below staying broken gs n) k) → base (spanned n b) ≡ b → base (left_by r (spanned n b)) ≡ list
base-left n b staying broken gs list r a d l order same e =
    let f = spanned n b in
    let family = spanned-IsUnionFamily n b in
    let low : IsBelow gs (near f r) =
    below-through gs (near (base f) r) (near f r) (subst (λ g. IsBelow gs (near g r)) (sym e) l) (near-below f r) in
    let kept : left_by r (base f) ≡ staying = ap (left_by r) e ∙ sym a in
    let here = λ (i : ℕ). let x : gained f r gs i ≡ gained_at staying broken gs i =
    sym (gained_at-is f r gs i (spanned-in_order n b)) ∙ ap₂ (λ s m. gained_at s m gs i) kept (ap (λ g. map (broken_in g) (filter (λ k. breaks k r) g)) e ∙ sym d) in x in
    let more = gained_below staying broken gs n in
    base-list f r gs list family.holds_unions low (spanned-in_order n b) order
    (λ k c. same k ∙ among-left staying more k (ap (λ g. is_among g k) (sym kept) ∙ c))
    (λ i k c.
    let w = gained-where f r gs i k c in
    let below = ltb-true i n (sym (has-full n i) ∙ family.small w.0 w.1 i w.2) in
    same k ∙ among-right staying more k (among-below staying broken gs n i k below (ap (λ g. is_among g k) (sym (here i)) ∙ c)))
    (λ k c. elim (among-either staying more k (sym (same k) ∙ c)) [
      | inl h ↦ inl (ap (λ g. is_among g k) kept ∙ h)
      | inr h ↦ let x = from-below staying broken gs n k h in inr (x.0, ap (λ g. is_among g k) (here x.0) ∙ x.1)
    ])

pub base-unbroken : (n : ℕ) (b : List Items) (r : Query) → some_breaks b r ≡ false → base (spanned n b) ≡ b → base (left_by r (spanned n b)) ≡ b
base-unbroken n b r none e = base-same (spanned n b) r (ap (λ g. some_breaks g r) e ∙ none) ∙ e

-- it is the base of the sets that it spans
pub base-left_again : (n : ℕ) (b sets : List Items) (r : Query) → base (left_by r (spanned n b)) ≡ sets → base (spanned n sets) ≡ sets
base-left_again n b sets r e =
    let f = spanned n b in
    base-again n (left_by r f) sets (IsInOrder-filter (λ k. not (breaks k r)) f (spanned-in_order n b)) (left-IsUnionFamily n f r (spanned-IsUnionFamily n b)) e
