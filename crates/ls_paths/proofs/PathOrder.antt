-- The learning paths in lexicographic order: the first, and those after a list.
use Rattle.ls_paths.proofs.Vocabulary.{◌&&◌, ◌++◌, ◌<◌, ◌∙◌, ◌∷◌, ◌≡◌, All-append, All-given, All-map, AllByRecursion, Bool, IsInLexOrder, AreOn, Items, List, None, Some, ℕ, [], and_from, and_parts, ap, ap₂, arith, cases_Bool, cond, each, empty, eq-eqb, eqb, eqb-true, false, false_from_ne_true, filter, filter-all, find, first_growth, flat_map, found-holds, full, growths, inl, inr, is_among, is_learning_space, is_lex_before, is_next, le-ltb, len, len-full, length, lt-ltb, ltb, ltb-true, map, members, minus, next_growth, numbers_from, or_cases, or_left, or_right, paths, refl, same_set, subst, suc, sym, true, true≢false, with, zero}
use Rattle.ls_paths.proofs.Growths.{IsLearning, learning-from, growths-first, growths-next, paths-are}

-- ---- in order

lex-irreflexive : (x : List ℕ) → is_lex_before x x ≡ false
lex-irreflexive [] = refl
lex-irreflexive (a ∷ x) = rw (le-ltb a a (omega arith), eq-eqb a a refl) (lex-irreflexive x)

lex-transitive : (x y z : List ℕ) → is_lex_before x y ≡ true → is_lex_before y z ≡ true → is_lex_before x z ≡ true
lex-transitive x [] z g h = absurd (true≢false (sym g))
lex-transitive x (b ∷ y) [] g h = absurd (true≢false (sym h))
lex-transitive [] (b ∷ y) (c ∷ z) g h = refl
lex-transitive (a ∷ x) (b ∷ y) (c ∷ z) g h =
    elim (or_cases (ltb a b) (eqb a b && is_lex_before x y) g) [
      | inl p ↦ elim (or_cases (ltb b c) (eqb b c && is_lex_before y z) h) [
        | inl q ↦ let u = ltb-true a b p in let v = ltb-true b c q in or_left (ltb a c) _ (lt-ltb a c (omega arith))
        | inr q ↦ let u = ltb-true a b p in let v = eqb-true b c (and_parts (eqb b c) (is_lex_before y z) q).0 in or_left (ltb a c) _ (lt-ltb a c (omega arith))
      ]
      | inr p ↦
          let s = and_parts (eqb a b) (is_lex_before x y) p in
          let u = eqb-true a b s.0 in
          elim (or_cases (ltb b c) (eqb b c && is_lex_before y z) h) [
            | inl q ↦ let v = ltb-true b c q in or_left (ltb a c) _ (lt-ltb a c (omega arith))
            | inr q ↦
                let t = and_parts (eqb b c) (is_lex_before y z) q in
                let v = eqb-true b c t.0 in
                or_right (ltb a c) (eqb a c && is_lex_before x z) (and_from (eqb a c) (is_lex_before x z) (eq-eqb a c (u ∙ v)) (lex-transitive x y z s.1 t.1))
          ]
    ]

lex-asymmetric : (x y : List ℕ) → is_lex_before x y ≡ true → is_lex_before y x ≡ false
lex-asymmetric x y h = false_from_ne_true (is_lex_before y x) (λ g. true≢false (sym (lex-transitive x y x h g) ∙ lex-irreflexive x))

lex-append : (xs ys : List (List ℕ)) → IsInLexOrder xs → IsInLexOrder ys → AllByRecursion (λ x. AllByRecursion (λ y. is_lex_before x y ≡ true) ys) xs → IsInLexOrder (xs ++ ys)
lex-append [] ys a b c = b
lex-append (x ∷ xs) ys a b c = (All-append (λ y. is_lex_before x y ≡ true) xs ys a.0 c.0, lex-append xs ys a.1 b c.1)

lex-headed : (i : ℕ) (xs : List (List ℕ)) → IsInLexOrder xs → IsInLexOrder (map (λ rest. i ∷ rest) xs)
lex-headed i [] h = tt
lex-headed i (x ∷ xs) h = (headed xs h.0, lex-headed i xs h.1)
  where
    headed : (ys : List (List ℕ)) → AllByRecursion (λ y. is_lex_before x y ≡ true) ys → AllByRecursion (λ y. is_lex_before (i ∷ x) y ≡ true) (map (λ rest. i ∷ rest) ys)
    headed [] h = tt
    headed (y ∷ ys) h = (rw (le-ltb i i (omega arith), eq-eqb i i refl) h.0, headed ys h.1)

-- lists behind greater items come after
lex-behind : (lists : ℕ → List (List ℕ)) (p : ℕ → Bool) (o : ℕ) (x : List ℕ) (i m : ℕ) → o < i → AllByRecursion (λ y. is_lex_before (o ∷ x) y ≡ true) (flat_map (λ j. map (λ rest. j ∷ rest) (lists j)) (filter p (numbers_from i m)))
lex-behind lists p o x i zero l = tt
lex-behind lists p o x i (suc m) l =
    let rest = lex-behind lists p o x (suc i) m (omega arith) in
    elim (p i) as (λ b. AllByRecursion (λ y. is_lex_before (o ∷ x) y ≡ true) (flat_map (λ j. map (λ rest. j ∷ rest) (lists j)) (cond b (i ∷ filter p (numbers_from (suc i) m)) (filter p (numbers_from (suc i) m))))) [
      | true ↦ All-append (λ y. is_lex_before (o ∷ x) y ≡ true) (map (λ rest. i ∷ rest) (lists i)) _ (All-map (λ y. is_lex_before (o ∷ x) y ≡ true) (λ rest. i ∷ rest) (lists i) (All-given (λ rest. is_lex_before (o ∷ x) (i ∷ rest) ≡ true) (λ y. rw (lt-ltb o i l) refl) (lists i))) rest
      | false ↦ rest
    ]

lex-grown : (lists : ℕ → List (List ℕ)) (p : ℕ → Bool) → ((i : ℕ) → IsInLexOrder (lists i)) → (i m : ℕ) → IsInLexOrder (flat_map (λ j. map (λ rest. j ∷ rest) (lists j)) (filter p (numbers_from i m)))
lex-grown lists p order i zero = tt
lex-grown lists p order i (suc m) =
    let rest = lex-grown lists p order (suc i) m in
    let later = flat_map (λ j. map (λ rest. j ∷ rest) (lists j)) (filter p (numbers_from (suc i) m)) in
    elim (p i) as (λ b. IsInLexOrder (flat_map (λ j. map (λ rest. j ∷ rest) (lists j)) (cond b (i ∷ filter p (numbers_from (suc i) m)) (filter p (numbers_from (suc i) m))))) [
      | true ↦ lex-append (map (λ rest. i ∷ rest) (lists i)) _ (lex-headed i (lists i) (order i)) rest
          (All-map (λ x. AllByRecursion (λ y. is_lex_before x y ≡ true) later) (λ rest. i ∷ rest) (lists i) (All-given (λ x. AllByRecursion (λ y. is_lex_before (i ∷ x) y ≡ true) later) (λ x. lex-behind lists p i x (suc i) m (omega arith)) (lists i)))
      | false ↦ rest
    ]

pub growths-in_order : (n : ℕ) (f : List Items) (m : ℕ) (k : Items) → IsInLexOrder (growths n f m k)
growths-in_order n f zero k = (tt, tt)
growths-in_order n f (suc m) k = lex-grown (λ j. growths n f m (with k j)) (is_next f k) (λ j. growths-in_order n f m (with k j)) 0 n

-- ---- what comes after

-- those after a list: the first of them, and those after that
pub after-next : (xs : List (List ℕ)) (o y : List ℕ) → IsInLexOrder xs → find (is_lex_before o) xs ≡ Some y → filter (is_lex_before o) xs ≡ y ∷ filter (is_lex_before y) xs
after-next [] o y order e = absurd (let z : None ≡ Some y = e in cc)
after-next (x ∷ xs) o y order e = elim (cases_Bool (is_lex_before o x)) [
  | inl a ↦
      let s : x ≡ y = let z : Some x ≡ Some y = rw a at e in cc in
      let all = each (λ z h. lex-transitive o x z a h) xs order.0 in
      rw (a, filter-all (is_lex_before o) xs all) (ap₂ (λ u l. u ∷ l) s (sym (ap (λ u. filter (is_lex_before u) (x ∷ xs)) (sym s) ∙ rw (lex-irreflexive x) (filter-all (is_lex_before x) xs order.0))))
  | inr a ↦
      let f : find (is_lex_before o) xs ≡ Some y = rw a at e in
      let b = lex-asymmetric x y (found-holds (λ z. is_lex_before x z ≡ true) (is_lex_before o) xs y f order.0) in
      rw (a, b) (after-next xs o y order.1 f)
]

pub after-none : (xs : List (List ℕ)) (o : List ℕ) → find (is_lex_before o) xs ≡ None → filter (is_lex_before o) xs ≡ []
after-none [] o e = refl
after-none (x ∷ xs) o e = elim (cases_Bool (is_lex_before o x)) [
  | inl a ↦ absurd (let z : Some x ≡ None = rw a at e in cc)
  | inr a ↦ rw a (after-none xs o (rw a at e))
]

pub after-first : (xs rest : List (List ℕ)) (y : List ℕ) → IsInLexOrder xs → xs ≡ y ∷ rest → filter (is_lex_before y) xs ≡ rest
after-first xs rest y order e =
    let o = subst IsInLexOrder e order in
    ap (filter (is_lex_before y)) e ∙ rw (lex-irreflexive y) (filter-all (is_lex_before y) rest o.0)

-- ---- paths

-- all items are left at first
pub all-left : (n : ℕ) → len (minus (full n) empty) ≡ n
all-left n = ap len (same_set (minus (full n) empty) (full n) (λ i. grind (arith, members))) ∙ len-full n

pub paths-in_order : (n : ℕ) (f : List Items) → is_among f empty ≡ true → IsInLexOrder (paths n f)
paths-in_order n f h = subst IsInLexOrder (sym (paths-are n f h)) (growths-in_order n f n empty)

pub paths-first : (n : ℕ) (f : List Items) → IsLearning n f → (rest : List (List ℕ)) × (paths n f ≡ first_growth n f n empty ∷ rest)
paths-first n f learning =
    let family = learning.family in
    let r = growths-first n f n empty learning family.holds_empty (all-left n) in
    (r.0, paths-are n f family.holds_empty ∙ r.1)

pub paths-next : (n : ℕ) (f : List Items) (order : List ℕ) → IsLearning n f → length order ≡ n → find (is_lex_before order) (paths n f) ≡ next_growth n f order empty
paths-next n f order learning e =
    let family = learning.family in
    ap (find (is_lex_before order)) (paths-are n f family.holds_empty ∙ ap (λ m. growths n f m empty) (sym e)) ∙ growths-next n f order empty learning family.holds_empty (all-left n ∙ sym e)

-- the first, and those after it
pub paths-begin : (n : ℕ) (f : List Items) → AreOn n f → is_learning_space (full n) f ≡ true
    → paths n f ≡ first_growth n f n empty ∷ filter (is_lex_before (first_growth n f n empty)) (paths n f)
paths-begin n f small h =
    let learning = learning-from n f small h in
    let family = learning.family in
    let first = first_growth n f n empty in
    let r = paths-first n f learning in
    r.1 ∙ ap (λ rest. first ∷ rest) (sym (after-first (paths n f) r.0 first (paths-in_order n f family.holds_empty) r.1))
