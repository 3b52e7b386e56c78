-- In a well-graded family a member is the greatest that has no item of its outer fringe, so its fringes tell it.
use Rattle.ls_laws.proofs.Vocabulary.{◌&&◌, ◌∙◌, ◌≡◌, Bool, Decides-is_same, AreOn, IsWellGraded, Items, List, None, Some, ℕ, absorbed_last, and_from, and_parts, ap, arith, bound, cases_Bool, cases_lt, cond, eq-eqb, eqb, false, filter, filter-both, full, has, has-above, has-minus, has-with, inl, inner_fringe, inr, interior, is_among, is_same, items, le-leb, le-ltb, lt-ltb, members, minus, not, numbers_from, or_right, outer_fringe, refl, set_of, state_of, sym, true, true≢false, union, union-right, with, without, zero-add}
use Rattle.ls_set.proofs.Cursors.{has-set_of-filter}
use Rattle.ls_laws.proofs.Lists.{find-none, find-one}
use Rattle.ls_laws.proofs.Interiors.{IsUnionFamily, IsInterior-interior, interior-is}
use Rattle.ls_laws.proofs.Counts.{some_missing}
use Rattle.ls_laws.proofs.Climbs.{outward, removable}

-- the items of s that pass
pub has-chosen : (p : ℕ → Bool) (s : Items) (i : ℕ) → has (set_of (filter p (items s))) i ≡ (has s i && p i)
unfolding items
has-chosen p s i =
    ap (λ l. has (set_of l) i) (filter-both (has s) p (numbers_from 0 (bound s)))
    ∙ has-set_of-filter (λ j. has s j && p j) 0 (bound s) i
    ∙ elim (cases_lt i (bound s)) [
      | inl l ↦ rw (le-leb 0 i (omega arith), zero-add, lt-ltb i (bound s) l) refl
      | inr l ↦ rw (le-leb 0 i (omega arith), zero-add, le-ltb i (bound s) l, has-above s i l) refl
    ]

pub has-inner_fringe : (f : List Items) (k : Items) (i : ℕ) → has (inner_fringe f k) i ≡ (has k i && is_among f (without k i))
unfolding inner_fringe
has-inner_fringe f k i = has-chosen (λ i. is_among f (without k i)) k i

-- no member has an item past n
with-small : (n : ℕ) (f : List Items) → AreOn n f → (k : Items) (i : ℕ) → is_among f (with k i) ≡ true → has (full n) i ≡ true
with-small n f small k i c = small (with k i) c i (has-with k i i ∙ or_right (has k i) (eqb i i) (eq-eqb i i refl))

pub has-outer_fringe : (n : ℕ) (f : List Items) → AreOn n f → (k : Items) (i : ℕ) → has (outer_fringe n f k) i ≡ (not (has k i) && is_among f (with k i))
unfolding outer_fringe
has-outer_fringe n f small k i =
    has-chosen (λ i. is_among f (with k i)) (minus (full n) k) i
    ∙ ap (λ b. b && is_among f (with k i)) (has-minus (full n) k i)
    ∙ absorbed_last (has (full n) i) (not (has k i)) (is_among f (with k i)) (with-small n f small k i)

in_minus : (s t : Items) (i : ℕ) → has s i ≡ true → has t i ≡ false → has (minus s t) i ≡ true
in_minus s t i a b = grind (arith, members)

not_in_minus : (s t : Items) (i : ℕ) → has (minus s t) i ≡ true → has t i ≡ false
not_in_minus s t i a = grind (arith, members)

right_of_union : (s t : Items) (i : ℕ) → has (union s t) i ≡ true → has s i ≡ false → has t i ≡ true
right_of_union s t i a b = grind (arith, members)

-- a member is the greatest that has no item of its outer fringe
pub greatest_without : (n : ℕ) (f : List Items) → IsUnionFamily n f → IsWellGraded f → (k : Items) → is_among f k ≡ true → interior f (minus (full n) (outer_fringe n f k)) ≡ k
greatest_without n f family graded k c =
    let rest = minus (full n) (outer_fringe n f k) in
    sym (IsInterior-interior f family.holds_empty family.holds_unions rest k (record {
      member = c;
      within = λ i h.
          in_minus (full n) (outer_fringe n f k) i (family.small k c i h) (has-outer_fringe n f family.small k i ∙ rw h);
      greatest = λ m cm wm. elim (some_missing k m) [
        | inl inside ↦ inside
        | inr x ↦
            let u = union k m in
            let cu = family.holds_unions k m c cm in
            let r = outward f family.holds_empty family.holds_unions graded k u x.0 c cu (union-right k m x.0 x.1) x.2 in
            let i = r.0 in
            let hm = right_of_union k m i r.1 r.2 in
            absurd (true≢false (sym (has-outer_fringe n f family.small k i ∙ rw r.2 r.3) ∙ not_in_minus (full n) (outer_fringe n f k) i (wm i hm)))
      ];
    }))

-- so it is told by its outer fringe
pub outer_fringe-same : (n : ℕ) (f : List Items) → IsUnionFamily n f → IsWellGraded f → (k l : Items) → is_among f k ≡ true → is_among f l ≡ true → outer_fringe n f k ≡ outer_fringe n f l → k ≡ l
outer_fringe-same n f family graded k l ck cl e =
    sym (greatest_without n f family graded k ck) ∙ ap (λ o. interior f (minus (full n) o)) e ∙ greatest_without n f family graded l cl

-- ---- reading

-- whether these are the fringes of k
abbrev pub has_fringes : ℕ → List Items → Items → Items → Items → Bool
has_fringes n f inner outer k = is_same (inner_fringe f k) inner && is_same (outer_fringe n f k) outer

fringes-tell : (n : ℕ) (f : List Items) → IsUnionFamily n f → IsWellGraded f → (inner outer k : Items) → is_among f k ≡ true → has_fringes n f inner outer k ≡ true → k ≡ interior f (minus (full n) outer)
fringes-tell n f family graded inner outer k c h =
    let x = and_parts (is_same (inner_fringe f k) inner) (is_same (outer_fringe n f k) outer) h in
    sym (greatest_without n f family graded k c) ∙ ap (λ o. interior f (minus (full n) o)) ((Decides-is_same (outer_fringe n f k) outer).0 x.1)

own_fringes : (n : ℕ) (f : List Items) (k : Items) → has_fringes n f (inner_fringe f k) (outer_fringe n f k) k ≡ true
own_fringes n f k = and_from (is_same (inner_fringe f k) (inner_fringe f k)) (is_same (outer_fringe n f k) (outer_fringe n f k))
    ((Decides-is_same (inner_fringe f k) (inner_fringe f k)).1 refl) ((Decides-is_same (outer_fringe n f k) (outer_fringe n f k)).1 refl)

-- the member with two given fringes is the greatest that has no item of the outer one, or there is none
pub state_of-is : (n : ℕ) (f : List Items) → IsUnionFamily n f → IsWellGraded f → (inner outer : Items)
    → let k = interior f (minus (full n) outer) in state_of n f inner outer ≡ cond (has_fringes n f inner outer k) (Some k) None
unfolding state_of
state_of-is n f family graded inner outer =
    let k = interior f (minus (full n) outer) in
    let member = (interior-is f family.holds_empty family.holds_unions (minus (full n) outer)).member in
    elim (cases_Bool (has_fringes n f inner outer k)) [
      | inl a ↦ rw a (find-one (has_fringes n f inner outer) f k member a (λ l c h. fringes-tell n f family graded inner outer l c h))
      | inr a ↦ rw a (find-none (has_fringes n f inner outer) f (λ l c. elim (cases_Bool (has_fringes n f inner outer l)) [
        | inl b ↦ absurd (true≢false (sym b ∙ ap (has_fringes n f inner outer) (fringes-tell n f family graded inner outer l c b) ∙ a))
        | inr b ↦ b
      ]))
    ]

-- a member is read back from its fringes
pub state_of-own : (n : ℕ) (f : List Items) → IsUnionFamily n f → IsWellGraded f → (k : Items) → is_among f k ≡ true → state_of n f (inner_fringe f k) (outer_fringe n f k) ≡ Some k
unfolding state_of
state_of-own n f family graded k c =
    find-one (has_fringes n f (inner_fringe f k) (outer_fringe n f k)) f k c (own_fringes n f k)
    (λ l cl h. fringes-tell n f family graded (inner_fringe f k) (outer_fringe n f k) l cl h ∙ greatest_without n f family graded k c)

-- ---- no member is stuck

-- where a member lacks an item of another, its outer fringe has an item of that other
pub outer_towards : (n : ℕ) (f : List Items) → IsUnionFamily n f → IsWellGraded f → (k l : Items) (x : ℕ) → is_among f k ≡ true → is_among f l ≡ true → has l x ≡ true → has k x ≡ false
    → (i : ℕ) × (has l i ≡ true) × (has (outer_fringe n f k) i ≡ true)
outer_towards n f family graded k l x ck cl hl hk =
    let u = union k l in
    let r = outward f family.holds_empty family.holds_unions graded k u x ck (family.holds_unions k l ck cl) (union-right k l x hl) hk in
    (r.0, right_of_union k l r.0 r.1 r.2, has-outer_fringe n f family.small k r.0 ∙ rw r.2 r.3)

-- a member that is not empty has an inner fringe
pub inner_towards : (n : ℕ) (f : List Items) → IsUnionFamily n f → IsWellGraded f → (k : Items) (x : ℕ) → is_among f k ≡ true → has k x ≡ true → (i : ℕ) × (has (inner_fringe f k) i ≡ true)
inner_towards n f family graded k x c h =
    let r = removable f graded family.holds_empty k x c h in
    (r.0, has-inner_fringe f k r.0 ∙ rw r.1 r.2)
