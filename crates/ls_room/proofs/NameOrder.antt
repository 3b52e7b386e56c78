-- Items in the order of their names.
use Rattle.ls_room.proofs.Vocabulary.{◌+◌, ◌-◌, ◌<◌, ◌∙◌, ◌∷◌, ◌≡◌, ◌≤◌, All, All-cons, All-head, All-nil, All-tail, Bool, List, Text, ℕ, [], ap, arith, by_name, cond, false, get_or, insert, insert_by_name, items_by_name, length, name_of, numbers_from, refl, slice_cmp, suc, true, zero}
use Rattle.std.specs.Ordering.{nat_cmp, is_lt}

-- ---- numbers in a row

pub numbers-All : (P : ℕ → Type 0) (i m : ℕ) → ((j : ℕ) → i ≤ j → j < i + m → P j) → All P (numbers_from i m)
numbers-All P i zero all = All-nil P
numbers-All P i (suc m) all = All-cons P i (numbers_from (suc i) m) (all i (omega arith) (omega arith)) (numbers-All P (suc i) m (λ j l h. all j (omega arith) (omega arith)))

-- ---- the order of names

module _ (names : List Text) where
  abbrev pub comes_first : ℕ → ℕ → Bool
  comes_first i j = is_lt (slice_cmp nat_cmp (name_of names i) (name_of names j))

  insert-All : (P : ℕ → Type 0) (i : ℕ) (js : List ℕ) → P i → All P js → All P (insert_by_name names i js)
  insert-All P i [] here all = All-cons P i [] here all
  insert-All P i (j ∷ js) here all =
      elim (comes_first i j) as (λ b. All P (cond b (i ∷ j ∷ js) (j ∷ insert_by_name names i js))) [
        | true ↦ All-cons P i (j ∷ js) here all
        | false ↦ All-cons P j (insert_by_name names i js) (All-head P j js all) (insert-All P i js here (All-tail P j js all))
      ]

  pub by_name-All : (P : ℕ → Type 0) (is : List ℕ) → All P is → All P (by_name names is)
  unfolding by_name
  by_name-All P [] all = all
  by_name-All P (i ∷ is) all = insert-All P i (by_name names is) (All-head P i is all) (by_name-All P is (All-tail P i is all))

  -- the place of an item is the first before whose item it comes
  pub insert-place : (i : ℕ) (js : List ℕ) (k : ℕ) → k ≤ length js → ((m : ℕ) → m < k → comes_first i (get_or js m 0) ≡ false) → (k < length js → comes_first i (get_or js k 0) ≡ true)
      → insert js k i ≡ insert_by_name names i js
  insert-place i [] zero le before here = refl
  insert-place i [] (suc k) le before here = absurd (omega arith)
  insert-place i (j ∷ js) zero le before here = rw (here (omega arith)) refl
  insert-place i (j ∷ js) (suc k) le before here =
      rw (before 0 (omega arith)) (ap (λ l. j ∷ l) (insert-place i js k (omega arith) (λ m h. before (suc m) (omega arith)) (λ h. here (omega arith))))

  -- one more item in front
  pub by_name-next : (n i j : ℕ) (order : List ℕ) → j ≡ suc i → j ≤ n → order ≡ by_name names (numbers_from j (n - j)) → insert_by_name names i order ≡ by_name names (numbers_from i (n - i))
  unfolding by_name
  by_name-next n i j order e le is =
      let more : suc (n - j) ≡ n - i = omega arith in
      ap (insert_by_name names i) (is ∙ ap (λ k. by_name names (numbers_from k (n - j))) e) ∙ ap (λ m. by_name names (numbers_from i m)) more

  pub by_name-none : (n : ℕ) → [] ≡ by_name names (numbers_from n (n - n))
  unfolding by_name
  by_name-none n = let none : 0 ≡ n - n = omega arith in ap (λ m. by_name names (numbers_from n m)) none

  -- all items, of which there are few
  pub items-few : (n : ℕ) → length names ≤ n → All (λ j. j < n) (items_by_name names)
  items-few n few = by_name-All (λ j. j < n) (numbers_from 0 (length names)) (numbers-All (λ j. j < n) 0 (length names) (λ j l h. omega arith))
