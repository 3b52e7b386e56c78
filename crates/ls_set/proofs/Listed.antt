-- The items of a set as they are listed: in ascending order, exactly those that it has.
use Rattle.ls_set.proofs.Vocabulary.{◌&&◌, ◌+◌, ◌<◌, ◌↔◌, ◌∙◌, ◌≡◌, ◌≤◌, All-contains, Bool, Contains, Items, None, Some, ℕ, and_from, and_parts, ap, arith, bound, eqb, eqb-true, false, false_from_ne_true, filter, filter_passes, get_or, has, items, least, length, list_any, lt-ltb, ltb, ltb-true, nat_tests, next_item, numbers_from, refl, suc, sym, true, true≢false, zero}
use Rattle.std.specs.List.Sorted.{IsStrictlyIncreasing}
use Rattle.std.proofs.lemmas.List.Kept.{IsStrictlyIncreasing-filter}
use Rattle.std.proofs.lemmas.Map.Views.{Contains-from_any}
use Rattle.ls_set.proofs.Ascending.{bound-has, find-filter, find_some, least-at, least-cases, next_item-at}
use Rattle.ls_set.proofs.Firsts.{items-none}

-- ---- in ascending order

length-numbers : (i m : ℕ) → length (numbers_from i m) ≡ m
length-numbers i zero = refl
length-numbers i (suc m) = ap suc (length-numbers (suc i) m)

get_or-numbers : (i m k : ℕ) → k < m → get_or (numbers_from i m) k 0 ≡ i + k
get_or-numbers i zero k h = absurd (omega arith)
get_or-numbers i (suc m) zero h = omega arith
get_or-numbers i (suc m) (suc k) h = get_or-numbers (suc i) m k (omega arith) ∙ omega arith

numbers-ascend : (i m : ℕ) → IsStrictlyIncreasing (numbers_from i m)
numbers-ascend i m k h = omega (arith, get_or-numbers i m k, get_or-numbers i m (k + 1), length-numbers i m)

pub items-ascend : (s : Items) → IsStrictlyIncreasing (items s)
unfolding items
items-ascend s = IsStrictlyIncreasing-filter (has s) (numbers_from 0 (bound s)) (numbers-ascend 0 (bound s))

-- ---- exactly those that it has

any_passing : (p : ℕ → Bool) (i m k : ℕ) → i ≤ k → k < i + m → p k ≡ true → list_any (eqb k) (filter p (numbers_from i m)) ≡ true
any_passing p i zero k low high here = absurd (omega arith)
any_passing p i (suc m) k low high here = grind (arith, nat_tests, any_passing p (suc i) m k, here)

any-items : (s : Items) (i : ℕ) → has s i ≡ true → list_any (eqb i) (items s) ≡ true
unfolding items
any-items s i h = any_passing (has s) 0 (bound s) i (omega arith) (let l : i < bound s = bound-has s i h in omega arith) h

pub Contains-items : (s : Items) (i : ℕ) → Contains (items s) i ↔ (has s i ≡ true)
unfolding items
Contains-items s i = (
  All-contains (λ j. has s j ≡ true) (items s) i (filter_passes (has s) (numbers_from 0 (bound s))),
  λ h. Contains-from_any eqb-true i (items s) (any-items s i h),
)

-- ---- the least item, and the next

pub least-none_left : (s : Items) (i : ℕ) → least s ≡ None → has s i ≡ false
least-none_left s i e = false_from_ne_true (has s i) (λ h. true≢false (sym (any-items s i h) ∙ ap (list_any (eqb i)) (items-none s e)))

pub least-is : (s : Items) (i : ℕ) → (least s ≡ Some i) ↔ ((has s i ≡ true) × ((j : ℕ) → j < i → has s j ≡ false))
least-is s i = (least-cases s i, λ h. least-at s i h.0 h.1)

pub next_item-cases : (s : Items) (a i : ℕ) → next_item s a ≡ Some i → (a < i) × (has s i ≡ true) × ((j : ℕ) → a < j → j < i → has s j ≡ false)
unfolding next_item items
next_item-cases s a i e =
    let h = find_some (λ j. has s j && ltb a j) 0 (bound s) i (sym (find-filter (has s) (λ j. ltb a j) (numbers_from 0 (bound s))) ∙ e) in
    let p = and_parts (has s i) (ltb a i) h.0 in (
      ltb-true a i p.1,
      p.0,
      λ j l m. false_from_ne_true (has s j) (λ k. true≢false (sym (and_from (has s j) (ltb a j) k (lt-ltb a j l)) ∙ h.1 j (omega arith) m)),
    )

pub next_item-is : (s : Items) (a i : ℕ) → (next_item s a ≡ Some i) ↔ ((a < i) × (has s i ≡ true) × ((j : ℕ) → a < j → j < i → has s j ≡ false))
next_item-is s a i = (next_item-cases s a i, λ h. next_item-at s a i h.0 h.1 h.2)
