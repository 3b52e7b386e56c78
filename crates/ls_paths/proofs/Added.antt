-- The items that can be added to a set, looked for among those outside it.
use Rattle.ls_paths.proofs.Vocabulary.{◌&&◌, ◌+◌, ◌-◌, ◌<◌, ◌||◌, ◌∙◌, ◌≡◌, ◌≤◌, Bool, AreOn, Items, List, None, Option, Some, ℕ, and_from, and_parts, ap, arith, cases_order, eq-eqb, eqb, false, false_from_ne_true, find, find_none, first_next, full, has, has-full, has-minus, has-with, inl, inr, is_among, is_next, least, least-cases, lt-ltb, ltb-true, minus, next_item_after, next_item, not, numbers_from, or_right, refl, suc, sym, true, true≢false, unwrap_or, with, zero}
use Rattle.ls_laws.proofs.ReadBack.{has-outer_fringe}
use Rattle.ls_theory.specs.{outer_fringe}
use Rattle.ls_theory.proofs.Numbers.{numbers_first}
use Rattle.ls_query.proofs.QuerySets.{next_item-cases, next_item-none_left, least-none_left}
use Rattle.ls_paths.proofs.Growths.{IsLearning, begins, some-next-outside}
use Rattle.ls_paths.proofs.Levels.{already}

-- ---- searches that pass numbers

find-from : (p : ℕ → Bool) (n d a b : ℕ) → a + d ≡ b → b ≤ n → ((j : ℕ) → a ≤ j → j < b → p j ≡ false) → find p (numbers_from a (n - a)) ≡ find p (numbers_from b (n - b))
find-from p n zero a b e l none = ap (λ x. find p (numbers_from x (n - x))) (let q : a ≡ b = omega arith in q)
find-from p n (suc d) a b e l none =
    ap (find p) (numbers_first a n (omega arith)) ∙ rw (none a (omega arith) (omega arith)) (find-from p n d (a + 1) b (omega arith) l (λ j g h. none j (omega arith) h))

find-here : (p : ℕ → Bool) (n i : ℕ) → i < n → p i ≡ true → find p (numbers_from i (n - i)) ≡ Some i
find-here p n i l h = ap (find p) (numbers_first i n l) ∙ rw h refl

-- ---- items outside a set

pub outside-small : (n : ℕ) (k : Items) (i : ℕ) → has (minus (full n) k) i ≡ true → (i < n) × (has k i ≡ false)
outside-small n k i h =
    let p = and_parts (has (full n) i) (not (has k i)) (sym (has-minus (full n) k i) ∙ h) in
    (ltb-true i n (sym (has-full n i) ∙ p.0), false_from_ne_true (has k i) (λ a. true≢false (sym p.1 ∙ ap not a)))

-- what can be added is outside
next-outside : (n : ℕ) (f : List Items) (k : Items) (i : ℕ) → AreOn n f → is_next f k i ≡ true → has (minus (full n) k) i ≡ true
next-outside n f k i small h =
    let p = and_parts (not (has k i)) (is_among f (with k i)) h in
    let e : has (with k i) i ≡ true = has-with k i i ∙ self (has k i) in
    has-minus (full n) k i ∙ and_from (has (full n) i) (not (has k i)) (small (with k i) p.1 i e) p.0
  where
    self : (b : Bool) → (b || eqb i i) ≡ true
    self b = or_right b (eqb i i) (eq-eqb i i refl)

not-next : (n : ℕ) (f : List Items) (k : Items) (i : ℕ) → AreOn n f → has (minus (full n) k) i ≡ false → is_next f k i ≡ false
not-next n f k i small h = false_from_ne_true (is_next f k i) (λ a. true≢false (sym (next-outside n f k i small a) ∙ h))

-- ---- the least that can be added above an item

pub above-none : (n : ℕ) (f : List Items) (k : Items) (item : ℕ) → AreOn n f → next_item (minus (full n) k) item ≡ None → next_item_after n f k item ≡ None
above-none n f k item small e =
    find_none (is_next f k) (suc item) (n - suc item) (λ j g h. not-next n f k j small (next_item-none_left (minus (full n) k) item j e (omega arith)))

-- the next item of the outer fringe is the first that can be added
pub fringe-after : (n : ℕ) (f : List Items) (k fringe : Items) (item : ℕ) → AreOn n f → fringe ≡ outer_fringe n f k → next_item fringe item ≡ next_item_after n f k item
fringe-after n f k fringe item small is = go (next_item fringe item) refl
  where
    at : (i : ℕ) → has fringe i ≡ is_next f k i
    at i = ap (λ s. has s i) is ∙ has-outer_fringe n f small k i

    go : (r : Option ℕ) → next_item fringe item ≡ r → r ≡ next_item_after n f k item
    go None e = sym (find_none (is_next f k) (suc item) (n - suc item) (λ j g h. sym (at j) ∙ next_item-none_left fringe item j e (omega arith)))
    go (Some i) e =
        let p = next_item-cases fringe item i e in
        let can : is_next f k i ≡ true = sym (at i) ∙ p.1 in
        let l = (outside-small n k i (next-outside n f k i small can)).0 in
        let less = p.0 in
        sym (find-from (is_next f k) n (i - suc item) (suc item) i (omega arith) (omega arith) (λ j g h. sym (at j) ∙ p.2 j (omega arith) h) ∙ find-here (is_next f k) n i l can)

-- ---- the least that can be added

-- the item is outside, and none below it can be added
pub record Least (n : ℕ) (f : List Items) (k : Items) (item : ℕ) : Type 0 where
  pub outside : has (minus (full n) k) item ≡ true
  pub none_below : (j : ℕ) → j < item → is_next f k j ≡ false

pub least-begin : (n : ℕ) (f : List Items) (k : Items) (item : ℕ) → AreOn n f → least (minus (full n) k) ≡ Some item → Least n f k item
least-begin n f k item small e =
    let p = least-cases (minus (full n) k) item e in
    record { outside = p.0; none_below = λ j l. not-next n f k j small (p.1 j l) }

-- the item that is found is the least
pub record IsFirst (n : ℕ) (f : List Items) (k : Items) (item : ℕ) : Type 0 where
  pub value : item ≡ first_next n f k
  pub member : is_among f (with k item) ≡ true

found : (n : ℕ) (f : List Items) (k : Items) (item : ℕ) → Least n f k item → is_next f k item ≡ true → IsFirst n f k item
found n f k item h a =
    let l = (outside-small n k item h.outside).0 in
    let e : find (is_next f k) (numbers_from 0 (n - 0)) ≡ Some item = find-from (is_next f k) n item 0 item (omega arith) (omega arith) (λ j _ less. h.none_below j less) ∙ find-here (is_next f k) n item l a in
    record {
      value = sym (ap (λ o. unwrap_or o 0) (ap (λ m. find (is_next f k) (numbers_from 0 m)) (let q : n ≡ n - 0 = omega arith in q) ∙ e));
      member = (and_parts (not (has k item)) (is_among f (with k item)) a).1;
    }

-- the last item outside a member can be added where no lesser one can
pub least-last : (n : ℕ) (f : List Items) (k : Items) (item : ℕ) → IsLearning n f → is_among f k ≡ true → Least n f k item → next_item (minus (full n) k) item ≡ None → IsFirst n f k item
least-last n f k item learning c h e =
    let b = begins (is_next f k) (numbers_from 0 n) (some-next-outside n f k item learning c h.outside) in
    let i = b.first in
    found n f k item h (ap (is_next f k) (sym (elim (cases_order i item) [
      | inl same ↦ same
      | inr other ↦ elim other [
        | inl less ↦ absurd (true≢false (sym b.passes ∙ h.none_below i less))
        | inr more ↦ absurd (true≢false (sym b.passes ∙ not-next n f k i learning.family.small (next_item-none_left (minus (full n) k) item i e more)))
      ]
    ])) ∙ b.passes)

-- the least item of the outer fringe
fringe-least : (n : ℕ) (f : List Items) (k fringe : Items) → AreOn n f → fringe ≡ outer_fringe n f k → least fringe ≡ find (is_next f k) (numbers_from 0 n)
fringe-least n f k fringe small is = go (least fringe) refl
  where
    at : (i : ℕ) → has fringe i ≡ is_next f k i
    at i = ap (λ s. has s i) is ∙ has-outer_fringe n f small k i

    go : (r : Option ℕ) → least fringe ≡ r → r ≡ find (is_next f k) (numbers_from 0 n)
    go None e = sym (find_none (is_next f k) 0 n (λ j _ h. sym (at j) ∙ least-none_left fringe j e))
    go (Some i) e =
        let p = least-cases fringe i e in
        let can : is_next f k i ≡ true = sym (at i) ∙ p.0 in
        let l = (outside-small n k i (next-outside n f k i small can)).0 in
        sym (ap (λ m. find (is_next f k) (numbers_from 0 m)) (let q : n ≡ n - 0 = omega arith in q)
        ∙ find-from (is_next f k) n i 0 i (omega arith) (omega arith) (λ j _ less. sym (at j) ∙ p.1 j less) ∙ find-here (is_next f k) n i l can)

-- a member that has not all items has one
pub fringe-first : (n : ℕ) (f : List Items) (k fringe : Items) (x item : ℕ) → IsLearning n f → is_among f k ≡ true → has (minus (full n) k) x ≡ true → fringe ≡ outer_fringe n f k → item ≡ unwrap_or (least fringe) 0
    → IsFirst n f k item × (item < n)
fringe-first n f k fringe x item learning c h is e =
    let small = learning.family.small in
    let b = begins (is_next f k) (numbers_from 0 n) (some-next-outside n f k x learning c h) in
    let first : item ≡ first_next n f k = e ∙ ap (λ o. unwrap_or o 0) (fringe-least n f k fringe small is) in
    let same : item ≡ b.first = first ∙ ap (λ o. unwrap_or o 0) b.found in
    let can : is_next f k item ≡ true = ap (is_next f k) same ∙ b.passes in (
      record { value = first; member = (and_parts (not (has k item)) (is_among f (with k item)) can).1 },
      (outside-small n k item (next-outside n f k item small can)).0,
    )

-- where no item is outside, 0 is written and nothing is added
pub least-none : (n : ℕ) (f : List Items) (k : Items) → AreOn n f → is_among f k ≡ true → 0 < n → least (minus (full n) k) ≡ None → IsFirst n f k 0
least-none n f k small c l e =
    let none : find (is_next f k) (numbers_from 0 n) ≡ None = find_none (is_next f k) 0 n (λ j _ h. not-next n f k j small (least-none_left (minus (full n) k) j e)) in
    let in_k : has k 0 ≡ true = inside (has k 0) (sym (ap (λ b. b && not (has k 0)) (has-full n 0 ∙ lt-ltb 0 n l)) ∙ sym (has-minus (full n) k 0) ∙ least-none_left (minus (full n) k) 0 e) in
    record { value = sym (ap (λ o. unwrap_or o 0) none); member = ap (is_among f) (already k 0 in_k) ∙ c }
  where
    inside : (b : Bool) → not b ≡ false → b ≡ true
    inside true h = refl
    inside false h = absurd (true≢false h)
