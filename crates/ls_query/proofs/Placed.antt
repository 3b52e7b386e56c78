-- The place of a set in the blocks: the sets of smaller sizes, and those of its size before it.
use Rattle.ls_query.proofs.Vocabulary.{◌++◌, ◌+◌, ◌-◌, ◌<◌, ◌∙◌, ◌∷◌, ◌≡◌, ◌≢◌, ◌≤◌, Decides-is_same, IsBetween, IsIn, IsSorted, Items, List, None, Some, ℕ, [], ap, arith, block_before, blocks, cases_Bool, choose, empty, eq-eqb, false, false_from_ne_true, get-in, get_or, has, has-empty, has-full, has-without, if◌then◌else◌, inl, inr, is_same, le-ltb, len, len-empty, length, length-map, lt-ltb, map, members, most_sets, nat_tests, not, position, prefix_len, refl, same_set, slice_get, suc, sym, true, true≢false, with, without, zero}
use Rattle.std.proofs.lemmas.Option.{slice_get_within, slice_get-get_or}
use Rattle.std.proofs.lemmas.List.Quantifiers.{position-Some}
use Rattle.ls_lists.proofs.Places.{get-map}
use Rattle.ls_query.proofs.Sorted.{in-get}
use Rattle.ls_query.proofs.Binomials.{choose-grows}
use Rattle.ls_query.proofs.BySize.{of_size, of_size-more, of_size-none, length-of_size, len-with, blocks-more, length-blocks_shorter}
use Rattle.ls_query.proofs.BlockOrder.{before-asymmetric}
use Rattle.ls_query.proofs.BlockSets.{IsOfBlocks, blocks-in, sorted-blocks}
use Rattle.ls_query.proofs.Counted.{choose-few}

-- ---- elements by their places

module _ {X : Type 0} where
  pub get-append_left : (xs ys : List X) (i : ℕ) (x : X) → slice_get xs i ≡ Some x → slice_get (xs ++ ys) i ≡ Some x
  get-append_left [] ys i x e = cc
  get-append_left (z ∷ xs) ys zero x e = e
  get-append_left (z ∷ xs) ys (suc i) x e = get-append_left xs ys i x e

  pub get-append_right : (xs ys : List X) (i : ℕ) (x : X) → slice_get ys i ≡ Some x → slice_get (xs ++ ys) (length xs + i) ≡ Some x
  get-append_right [] ys i x e = rw (let z : 0 + i ≡ i = omega arith in z) e
  get-append_right (z ∷ xs) ys i x e = rw (let s : suc (length xs) + i ≡ suc (length xs + i) = omega arith in s) (get-append_right xs ys i x e)

-- ---- the position of a set in a sorted list

prefix-at : (xs : List Items) (a : Items) (i : ℕ) → IsSorted block_before xs → slice_get xs i ≡ Some a → prefix_len (λ x. not (is_same a x)) xs ≡ i
prefix-at [] a i s e = cc
prefix-at (x ∷ xs) a zero s e = let same : x ≡ a = cc in rw ((Decides-is_same a x).1 (sym same)) refl
prefix-at (x ∷ xs) a (suc i) s e =
    let first : block_before x a ≡ true = s.0 a (get-in xs i a e) in
    let other : is_same a x ≡ false = false_from_ne_true (is_same a x) (λ h.
    let same : a ≡ x = (Decides-is_same a x).0 h in
    true≢false (sym first ∙ ap (block_before x) same ∙ before-asymmetric x x (ap (block_before x) (sym same) ∙ first))) in
    rw (other, prefix-at xs a i s.1 e) (let z : 1 + i ≡ suc i = omega arith in z)

prefix-all : (xs : List Items) (a : Items) → ((x : Items) → IsIn x xs → is_same a x ≡ false) → prefix_len (λ x. not (is_same a x)) xs ≡ length xs
prefix-all [] a h = refl
prefix-all (x ∷ xs) a h = rw (h x (inl refl), prefix-all xs a (λ y c. h y (inr c))) (let z : 1 + length xs ≡ suc (length xs) = omega arith in z)

-- a set that stands at a place is found there
pub position-at : (n k : ℕ) (a : Items) (i : ℕ) → slice_get (blocks n k) i ≡ Some a → position (is_same a) (blocks n k) ≡ Some i
position-at n k a i e = rw (prefix-at (blocks n k) a i (sorted-blocks n k) e, lt-ltb i (length (blocks n k)) (slice_get_within (blocks n k) i a e)) refl

-- and stands where it is found
pub position-get : (n k : ℕ) (a : Items) (i : ℕ) → position (is_same a) (blocks n k) ≡ Some i → slice_get (blocks n k) i ≡ Some a
position-get n k a i e =
    let h = position-Some (is_same a) (blocks n k) i a e in
    slice_get-get_or (blocks n k) i a h.0 ∙ ap Some (sym ((Decides-is_same a (get_or (blocks n k) i a)).0 h.1))

pub position-none : (n k : ℕ) (a : Items) → (IsOfBlocks n k a → ⊥) → position (is_same a) (blocks n k) ≡ None
position-none n k a h =
    rw (prefix-all (blocks n k) a (λ x c. false_from_ne_true (is_same a x) (λ s. h (rw ((Decides-is_same a x).0 s) (blocks-in n k x c)))), le-ltb (length (blocks n k)) (length (blocks n k)) (omega arith)) refl

-- each set of the blocks has a place
pub block_place : (n k : ℕ) (a : Items) → IsIn a (blocks n k) → (i : ℕ) × (position (is_same a) (blocks n k) ≡ Some i)
block_place n k a c = let r = in-get (blocks n k) a c in (r.0, position-at n k a r.0 r.1)

-- ---- the place in a size

-- how many sets of a size of m + 1 items have the first item
abbrev pub with_first : ℕ → ℕ → ℕ
with_first m zero = 0
with_first m (suc size) = choose m size

-- how many of the sets of a size of the m items from i on come before the set that has those of them that a has
pub place_from : Items → ℕ → ℕ → ℕ → ℕ
place_from a i zero size = 0
place_from a i (suc m) size = if has a i then place_from a (suc i) m (size - 1) else with_first m size + place_from a (suc i) m size

pub place_from-none : (a : Items) (i size : ℕ) → place_from a i 0 size ≡ 0
unfolding place_from
place_from-none a i size = refl

pub place_from-has : (a : Items) (i m size : ℕ) → has a i ≡ true → place_from a i (suc m) size ≡ place_from a (suc i) m (size - 1)
unfolding place_from
place_from-has a i m size h = rw h refl

pub place_from-lacks : (a : Items) (i m size : ℕ) → has a i ≡ false → place_from a i (suc m) size ≡ with_first m size + place_from a (suc i) m size
unfolding place_from
place_from-lacks a i m size h = rw h refl

rest_between : (i m : ℕ) (s : Items) → IsBetween i (suc m) s → IsBetween (suc i) m (without s i)
rest_between i m s h j c =
    let n : j ≢ i = λ e. let x = sym (has-without s i j) ∙ c in grind (arith, nat_tests) in
    let k = h j (let x = sym (has-without s i j) ∙ c in grind (arith, nat_tests)) in
    (omega arith, omega arith)

same_between : (i m : ℕ) (s : Items) → IsBetween i (suc m) s → has s i ≡ false → IsBetween (suc i) m s
same_between i m s h out j c =
    let n : j ≢ i = λ e. true≢false (sym c ∙ ap (has s) e ∙ out) in
    let k = h j c in
    (omega arith, omega arith)

put_back : (s : Items) (i : ℕ) → has s i ≡ true → with (without s i) i ≡ s
put_back s i h = same_set (with (without s i) i) s (λ j. let x = h in grind (arith, members, nat_tests))

-- s stands at the place that is counted from its items
pub at-place : (i m size : ℕ) (a s : Items) → IsBetween i m s → len s ≡ size → ((j : ℕ) → i ≤ j → has a j ≡ has s j) → slice_get (of_size i m size) (place_from a i m size) ≡ Some s
at-place i zero size a s b e same =
    let none : s ≡ empty = same_set s empty (λ j. false_from_ne_true (has s j) (λ c. let k = b j c in absurd (omega arith)) ∙ sym (has-empty j)) in
    rw (place_from-none a i size, sym e, none, len-empty) refl
at-place i (suc m) size a s b e same =
    elim (cases_Bool (has s i)) [
      | inl h ↦
          let out : has (without s i) i ≡ false = has-without s i i ∙ rw (h, eq-eqb i i refl) refl in
          let more : len s ≡ suc (len (without s i)) = ap len (sym (put_back s i h)) ∙ len-with (without s i) i out in
          let rest = at-place (suc i) m (len (without s i)) a (without s i) (rest_between i m s b) refl (λ j l. same j (omega arith) ∙ sym (kept s i j (omega arith))) in
          rw (sym e ∙ more, place_from-has a i m (suc (len (without s i))) (same i (omega arith) ∙ h), of_size-more i m (len (without s i)), let z : suc (len (without s i)) - 1 ≡ len (without s i) = omega arith in z)
          (get-append_left (map (λ t. with t i) (of_size (suc i) m (len (without s i)))) (of_size (suc i) m (suc (len (without s i)))) (place_from a (suc i) m (len (without s i))) s
          (get-map (λ t. with t i) (of_size (suc i) m (len (without s i))) (place_from a (suc i) m (len (without s i))) (without s i) rest ∙ ap Some (put_back s i h)))
      | inr h ↦ elim size as (λ z. len s ≡ z → slice_get (of_size i (suc m) z) (place_from a i (suc m) z) ≡ Some s) [
        | zero ↦ λ e.
            let rest = at-place (suc i) m 0 a s (same_between i m s b h) e (λ j l. same j (omega arith)) in
            rw (place_from-lacks a i m 0 (same i (omega arith) ∙ h), of_size-none i m, let z : 0 + place_from a (suc i) m 0 ≡ place_from a (suc i) m 0 = omega arith in z) rest
        | suc z ↦ λ e.
            let rest = at-place (suc i) m (suc z) a s (same_between i m s b h) e (λ j l. same j (omega arith)) in
            let before : length (map (λ t. with t i) (of_size (suc i) m z)) ≡ choose m z = length-map (of_size (suc i) m z) (λ t. with t i) ∙ length-of_size (suc i) m z in
            rw (place_from-lacks a i m (suc z) (same i (omega arith) ∙ h), of_size-more i m z, sym before)
            (get-append_right (map (λ t. with t i) (of_size (suc i) m z)) (of_size (suc i) m (suc z)) (place_from a (suc i) m (suc z)) s rest)
      ] e
    ]
  where
    kept : (s : Items) (i j : ℕ) → i < j → has (without s i) j ≡ has s j
    kept s i j l = grind (arith, members, nat_tests)

-- ---- the place in the blocks

at_more : (n k d : ℕ) (i : ℕ) (s : Items) → slice_get (blocks n k) i ≡ Some s → slice_get (blocks n (k + d)) i ≡ Some s
at_more n k zero i s e = rw (let z : k + 0 ≡ k = omega arith in z) e
at_more n k (suc d) i s e =
    rw (let z : k + suc d ≡ suc (k + d) = omega arith in z, blocks-more n (k + d))
    (get-append_left (blocks n (k + d)) (of_size 0 n (suc (k + d))) i s (at_more n k d i s e))

pub find-place : (n k size : ℕ) (a : Items) → IsOfBlocks n k a → len a ≡ size → position (is_same a) (blocks n k) ≡ Some (length (blocks n (size - 1)) + place_from a 0 n size)
find-place n k zero a h e = let l = h.some in absurd (omega arith)
find-place n k (suc size) a h e =
    let l = h.few in
    let z : suc size - 1 ≡ size = omega arith in
    let y : suc size + (k - suc size) ≡ k = omega arith in
    let here = at-place 0 n (suc size) a a (λ j c. let q = h.within j c in (omega arith, let w = sym (has-full n j) ∙ q in grind (arith, nat_tests))) e (λ j _. refl) in
    rw z (position-at n k a (length (blocks n size) + place_from a 0 n (suc size))
    (rw (sym y) (at_more n (suc size) (k - suc size) (length (blocks n size) + place_from a 0 n (suc size)) a
    (rw (blocks-more n size) (get-append_right (blocks n size) (of_size 0 n (suc size)) (place_from a 0 n (suc size)) a here)))))

-- in blocks that are not too many, no coefficient on the way is too large
pub choose-bounded : (n k m j : ℕ) → length (blocks n k) ≤ most_sets → m ≤ n → j ≤ k → choose m j ≤ most_sets
choose-bounded n k m j h l g =
    let f : m + (n - m) ≡ n = omega arith in
    let wide : choose n j ≤ most_sets = choose-few n j most_sets (omega (arith, length-blocks_shorter n j k g, h)) (omega arith) in
    let less : choose m j ≤ choose n j = rw (sym f) (choose-grows m (n - m) j) in
    omega (arith, wide, less)
