-- The names of a set's items, group by group.
use Rattle.ls_room.proofs.Vocabulary.{◌%◌, ◌*◌, ◌++◌, ◌+◌, ◌-◌, ◌/◌, ◌<◌, ◌^◌, ◌∙◌, ◌∷◌, ◌≡◌, ◌≢◌, ◌≤◌, Bool, Items, List, Text, ℕ, [], agree_below_at, ap, append-nil, ap₂, arith, bit_at, cases_lt, cond, drop, drop-parts, drop_of_length-le, eq-eqb, eqb, eqb-true, false, filter, filter-append, flat_map, flat_map-append, get_or, group_count, group_items, group_text, group_texts, has, inl, inr, join-spaced-one, join_with_byte, length, length-append, map, map-append, map-id, min, name_of, names_of_set, nat_tests, ne_eqb, numbers_from, refl, single, spaced, spaced_names, suc, sym, true, zero}
use Rattle.std.proofs.lemmas.Nat.Bits.{bit_at-zero}
use Rattle.ls_set.proofs.Sets.{has-single}
use Rattle.ls_set.proofs.Sizes.{numbers_from-add, filter-none}

-- ---- numbers in a row

length-map-numbers : {X : Type 0} (f : ℕ → X) (i m : ℕ) → length (map f (numbers_from i m)) ≡ m
length-map-numbers f i zero = refl
length-map-numbers f i (suc m) = ap suc (length-map-numbers f (suc i) m)

get_or-map-numbers : {X : Type 0} (f : ℕ → X) (d : X) (i m k : ℕ) → k < m → get_or (map f (numbers_from i m)) k d ≡ f (i + k)
get_or-map-numbers f d i zero k h = absurd (omega arith)
get_or-map-numbers f d i (suc m) zero h = ap f (let e : i ≡ i + 0 = omega arith in e)
get_or-map-numbers f d i (suc m) (suc k) h = get_or-map-numbers f d (suc i) m k (omega arith) ∙ ap f (let e : suc i + k ≡ i + suc k = omega arith in e)

numbers_from-next : (i m : ℕ) → numbers_from i (m + 1) ≡ numbers_from i m ++ (i + m) ∷ []
numbers_from-next i m = numbers_from-add i m 1

same-filter : (p q : ℕ → Bool) (i m : ℕ) → ((j : ℕ) → i ≤ j → j < i + m → p j ≡ q j) → filter p (numbers_from i m) ≡ filter q (numbers_from i m)
same-filter p q i zero h = refl
same-filter p q i (suc m) h =
    ap₂ (λ b l. cond b (i ∷ l) l) (h i (omega arith) (omega arith)) (same-filter p q (suc i) m (λ j l k. h j (omega arith) (omega arith)))

-- one number passes
filter-one : (p : ℕ → Bool) (a m i : ℕ) → a ≤ i → i < a + m → p i ≡ true → ((j : ℕ) → j ≢ i → p j ≡ false) → filter p (numbers_from a m) ≡ i ∷ []
filter-one p a zero i l h passes others = absurd (omega arith)
filter-one p a (suc m) i l h passes others =
    elim (cases_lt a i) [
      | inl less ↦ rw (others a (λ e. omega arith)) (filter-one p (suc a) m i (omega arith) (omega arith) passes others)
      | inr le ↦
          let e : a ≡ i = omega arith in
          rw (ap p e ∙ passes) (ap₂ (λ j js. j ∷ js) e (filter-none p (suc a) m (λ j l h. others j (λ e. omega arith))))
    ]

-- ---- digits

-- a power of two is a byte's pattern
pub byte_pow : (k : ℕ) → k < 8 → 1 * 2 ^ k % 256 ≡ 2 ^ k
byte_pow k h = eqb-true _ _ (agree_below_at (λ k. eqb (1 * 2 ^ k % 256) (2 ^ k)) (λ _. true) 8 k refl h)

-- the digit of an item alone in the pattern of its group
single-digit : (i j : ℕ) → j < 8 → eqb (bit_at (2 ^ (i % 8)) j) 1 ≡ has (single i) (8 * (i / 8) + j)
unfolding has single
single-digit i j h =
    let one : eqb (bit_at (2 ^ (i % 8)) j) 1 ≡ eqb j (i % 8) = has-single (i % 8) j in
    let other : eqb (bit_at (2 ^ i) (8 * (i / 8) + j)) 1 ≡ eqb (8 * (i / 8) + j) i = has-single i (8 * (i / 8) + j) in
    let same : eqb j (i % 8) ≡ eqb (8 * (i / 8) + j) i = grind (arith, nat_tests) in
    one ∙ same ∙ sym other

-- ---- names, each behind a space

-- the images of a list, and the list of the images
spaced-map : {X : Type 0} (f : X → Text) (xs : List X) → spaced f xs ≡ spaced (λ w. w) (map f xs)
spaced-map f [] = refl
spaced-map f (x ∷ xs) = ap (λ l. 32 ∷ (f x ++ l)) (spaced-map f xs)

-- without the space before the first
pub joined-spaced : (ws : List Text) → drop 1 (spaced (λ w. w) ws) ≡ join_with_byte 32 ws
joined-spaced [] = refl
joined-spaced (w ∷ ws) = join-spaced-one w (λ v. v) ws ∙ ap (λ vs. join_with_byte 32 (w ∷ vs)) (map-id ws)

module _ (names : List Text) where
  spaced-append : (p : ℕ → Bool) (is js : List ℕ) → spaced_names names p (is ++ js) ≡ spaced_names names p is ++ spaced_names names p js
  spaced-append p is js =
      ap (flat_map (λ i. 32 ∷ name_of names i)) (filter-append p is js) ∙ flat_map-append (λ i. 32 ∷ name_of names i) (filter p is) (filter p js)

  spaced-next : (p : ℕ → Bool) (first item : ℕ) → first ≤ item → spaced_names names p (numbers_from first (item + 1 - first)) ≡ spaced_names names p (numbers_from first (item - first)) ++ spaced_names names p (item ∷ [])
  spaced-next p first item h =
      let k = item - first in
      let more : item + 1 - first ≡ k + 1 = omega arith in
      let last : first + k ≡ item = omega arith in
      ap (λ m. spaced_names names p (numbers_from first m)) more ∙ ap (spaced_names names p) (numbers_from-next first k) ∙ spaced-append p (numbers_from first k) ((first + k) ∷ [])
      ∙ ap (λ i. spaced_names names p (numbers_from first k) ++ spaced_names names p (i ∷ [])) last

  pub spaced-taken : (p : ℕ → Bool) (first item : ℕ) → first ≤ item → p item ≡ true → spaced_names names p (numbers_from first (item - first)) ++ (32 ∷ name_of names item) ≡ spaced_names names p (numbers_from first (item + 1 - first))
  spaced-taken p first item h passes =
      let one : spaced_names names p (item ∷ []) ≡ 32 ∷ name_of names item = rw passes (append-nil (32 ∷ name_of names item)) in
      sym (spaced-next p first item h ∙ ap (λ l. spaced_names names p (numbers_from first (item - first)) ++ l) one)

  pub spaced-passed : (p : ℕ → Bool) (first item : ℕ) → first ≤ item → p item ≡ false → spaced_names names p (numbers_from first (item - first)) ≡ spaced_names names p (numbers_from first (item + 1 - first))
  spaced-passed p first item h fails =
      let none : spaced_names names p (item ∷ []) ≡ [] = rw fails refl in
      sym (spaced-next p first item h ∙ ap (λ l. spaced_names names p (numbers_from first (item - first)) ++ l) none ∙ append-nil (spaced_names names p (numbers_from first (item - first))))

  -- the names of a set
  pub all-spaced : (s : Items) → spaced_names names (has s) (numbers_from 0 (length names)) ≡ spaced (λ w. w) (names_of_set names s)
  unfolding names_of_set
  all-spaced s = spaced-map (name_of names) (filter (has s) (numbers_from 0 (length names)))

  -- ---- groups

  -- the names of the set's items in the groups below g
  abbrev pub names_before : Items → ℕ → Text
  names_before s g = spaced_names names (has s) (numbers_from 0 (min (length names) (8 * g)))

  pub names_before-none : (s : Items) → names_before s 0 ≡ []
  names_before-none s = let none : min (length names) (8 * 0) ≡ 0 = omega arith in ap (λ m. spaced_names names (has s) (numbers_from 0 m)) none

  pub names_before-dropped : (s : Items) (k : ℕ) → [] ≡ drop k (names_before s 0)
  names_before-dropped s k = sym (drop_of_length-le [] (omega arith)) ∙ ap (drop k) (sym (names_before-none s))

  names_before-next : (s : Items) (g : ℕ) → 8 * g < length names → names_before s g ++ spaced_names names (has s) (group_items (length names) g) ≡ names_before s (g + 1)
  names_before-next s g h =
      let n = length names in
      let low : min n (8 * g) ≡ 8 * g = omega arith in
      let high : 8 * g + min 8 (n - 8 * g) ≡ min n (8 * (g + 1)) = omega arith in
      ap (λ m. spaced_names names (has s) (numbers_from 0 m) ++ spaced_names names (has s) (group_items n g)) low
      ∙ sym (ap (λ m. spaced_names names (has s) (numbers_from 0 m)) (sym high) ∙ ap (spaced_names names (has s)) (numbers_from-add 0 (8 * g) (min 8 (n - 8 * g))) ∙ spaced-append (has s) (numbers_from 0 (8 * g)) (numbers_from (0 + 8 * g) (min 8 (n - 8 * g)))
      ∙ ap (λ i. spaced_names names (has s) (numbers_from 0 (8 * g)) ++ spaced_names names (has s) (numbers_from i (min 8 (n - 8 * g)))) (let e : 0 + 8 * g ≡ 8 * g = omega arith in e))

  -- the same but for the first k bytes
  pub dropped-next : (s : Items) (g k : ℕ) → 8 * g < length names
      → drop k (names_before s g) ++ drop (k - length (names_before s g)) (spaced_names names (has s) (group_items (length names) g)) ≡ drop k (names_before s (g + 1))
  dropped-next s g k h = drop-parts k (names_before s g) (spaced_names names (has s) (group_items (length names) g)) ∙ ap (drop k) (names_before-next s g h)

  -- so long they are
  pub length-names_before : (s : Items) (g : ℕ) → 8 * g < length names → length (names_before s (g + 1)) ≡ length (names_before s g) + length (spaced_names names (has s) (group_items (length names) g))
  length-names_before s g h = ap length (sym (names_before-next s g h)) ∙ length-append (names_before s g) (spaced_names names (has s) (group_items (length names) g))

  -- the text of the pattern of a set
  module _ (s : Items) (g pattern : ℕ) (same : (j : ℕ) → j < 8 → eqb (bit_at pattern j) 1 ≡ has s (8 * g + j)) where
    pattern-has : (i : ℕ) → 8 * g ≤ i → i < 8 * g + min 8 (length names - 8 * g) → eqb (bit_at pattern (i % 8)) 1 ≡ has s i
    pattern-has i l h = let e : 8 * g + i % 8 ≡ i = omega arith in same (i % 8) (omega arith) ∙ ap (has s) e

    pub group_text-of_set : group_text names g pattern ≡ spaced_names names (has s) (group_items (length names) g)
    group_text-of_set = ap (flat_map (λ i. 32 ∷ name_of names i)) (same-filter (λ i. eqb (bit_at pattern (i % 8)) 1) (has s) (8 * g) (min 8 (length names - 8 * g)) pattern-has)

    pub group_text-none : pattern ≡ 0 → spaced_names names (has s) (group_items (length names) g) ≡ []
    group_text-none none = ap (flat_map (λ i. 32 ∷ name_of names i)) (filter-none (has s) (8 * g) (min 8 (length names - 8 * g)) (λ i l h.
        sym (pattern-has i l h) ∙ ap (λ (n : ℕ). eqb n 1) (ap (λ (n : ℕ). bit_at n (i % 8)) none ∙ bit_at-zero (i % 8))))

  -- the text of the pattern of one item
  pub group_text-single : (i pattern : ℕ) → i < length names → pattern ≡ 2 ^ (i % 8) → group_text names (i / 8) pattern ≡ 32 ∷ name_of names i
  group_text-single i pattern lt e =
      let g = i / 8 in
      group_text-of_set (single i) g pattern (λ j h. ap (λ n. eqb (bit_at n j) 1) e ∙ single-digit i j h)
      ∙ ap (spaced (name_of names)) (filter-one (has (single i)) (8 * g) (min 8 (length names - 8 * g)) i (omega arith) (omega arith) (has-single i i ∙ eq-eqb i i refl) (λ j ne. has-single i j ∙ ne_eqb j i ne))
      ∙ append-nil (32 ∷ name_of names i)

  -- ---- the texts of all patterns

  abbrev text_at : ℕ → Text
  text_at k = group_text names (k / 256) (k % 256)

  pub texts-next : (texts : List Text) (text : Text) (k : ℕ) → texts ≡ map text_at (numbers_from 0 k) → text ≡ text_at k → texts ++ text ∷ [] ≡ map text_at (numbers_from 0 (k + 1))
  texts-next texts text k h e =
      let at : 0 + k ≡ k = omega arith in
      ap₂ (λ ts t. ts ++ t ∷ []) h e ∙ sym (ap (map text_at) (numbers_from-next 0 k ∙ ap (λ i. numbers_from 0 k ++ i ∷ []) at) ∙ map-append text_at (numbers_from 0 k) (k ∷ []))

  pub length-group_texts : length (group_texts names) ≡ 256 * group_count (length names)
  unfolding group_texts
  length-group_texts = length-map-numbers text_at 0 (256 * group_count (length names))

  pub get_or-group_texts : (k g pattern : ℕ) → k ≡ 256 * g + pattern → pattern < 256 → 8 * g < length names → get_or (group_texts names) k [] ≡ group_text names g pattern
  unfolding group_texts
  get_or-group_texts k g pattern e p h =
      let at : (0 + k) / 256 ≡ g = omega arith in
      let rest : (0 + k) % 256 ≡ pattern = omega arith in
      get_or-map-numbers text_at [] 0 (256 * group_count (length names)) k (omega arith) ∙ ap₂ (group_text names) at rest
