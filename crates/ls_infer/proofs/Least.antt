-- The least of some numbers, found one by one; and of numbers in order.
use Rattle.ls_infer.proofs.Vocabulary.{◌||◌, ◌∙◌, ◌∷◌, ◌≡◌, ◌≤◌, All-filter, All-list_all, Bool, List, No, None, Option, Some, ℕ, [], ap, arith, cond, eq-eqb, eqb, eqb-true, false, filter, find, first_least, leb, leb-true, list_all, list_all-All, list_any, map, min, nat_tests, option_map_or, refl, subst, sym, tail-increasing, true, true≢false}
use Rattle.std.specs.Prelude.{option_map}
use Rattle.std.specs.List.Sorted.{IsStrictlyIncreasing}
use Rattle.std.proofs.lemmas.Bool.{and_parts, and_from, or_left, or_right, le-leb}
use Rattle.ls_laws.proofs.Least.{first_is_least}

-- the least of the numbers, and of the one that is found before them
abbrev pub least_with : Option ℕ → List ℕ → Option ℕ
least_with o [] = o
least_with o (x ∷ xs) = least_with (Some (option_map_or (min x) o x)) xs

-- ---- the first of the least

any-weaker : {X : Type 0} (p q : X → Bool) (xs : List X) → ((x : X) → p x ≡ true → q x ≡ true) → list_any p xs ≡ true → list_any q xs ≡ true
any-weaker p q [] w h = h
any-weaker p q (x ∷ xs) w h = elim (p x) as (λ b. p x ≡ b → (b || list_any p xs) ≡ true → (q x || list_any q xs) ≡ true) [
  | true ↦ λ e _. or_left (q x) (list_any q xs) (w x e)
  | false ↦ λ _ h. or_right (q x) (list_any q xs) (any-weaker p q xs w h)
] refl h

-- where one passes p, and all pass q, p finds one that passes both
found : {X : Type 0} (p q : X → Bool) (xs : List X) → list_any p xs ≡ true → list_all q xs ≡ true → (x : X) × (find p xs ≡ Some x) × (p x ≡ true) × (q x ≡ true)
found p q [] h a = absurd (true≢false (sym h))
found p q (x ∷ xs) h a =
    let b = and_parts (q x) (list_all q xs) a in
    elim (p x) as (λ b. p x ≡ b → (b || list_any p xs) ≡ true → (y : _) × (cond b (Some x) (find p xs) ≡ Some y) × (p y ≡ true) × (q y ≡ true)) [
      | true ↦ λ e _. (x, refl, e, b.0)
      | false ↦ λ _ h. found p q xs h b.1
    ] refl h

-- the least value is that of the first that is least
pub first_least-value : {X : Type 0} (value : X → ℕ) (xs : List X) (k : ℕ) → list_all (λ y. leb k (value y)) xs ≡ true → list_any (λ y. eqb (value y) k) xs ≡ true → option_map value (first_least value xs) ≡ Some k
first_least-value {X} value xs k above here =
    let p : X → Bool = λ x. list_all (λ y. leb (value x) (value y)) xs in
    let some = any-weaker (λ x. eqb (value x) k) p xs (λ x e. subst (λ m. list_all (λ y. leb m (value y)) xs ≡ true) (sym (eqb-true (value x) k e)) above) here in
    let x = found p (λ y. leb k (value y)) xs some above in
    let y = found (λ y. eqb (value y) k) (λ y. leb (value x.0) (value y)) xs here x.2 in
    let same : value x.0 ≡ k = omega (arith, leb-true k (value x.0) x.3, leb-true (value x.0) (value y.0) y.3, eqb-true (value y.0) k y.2) in
    ap (option_map value) x.1 ∙ ap Some same

-- what is found one by one
pub least_with-parts : {X : Type 0} (value : X → ℕ) (xs : List X) (m : ℕ)
    → (k : ℕ) × (least_with (Some m) (map value xs) ≡ Some k) × (k ≤ m) × (list_all (λ y. leb k (value y)) xs ≡ true) × ((eqb m k || list_any (λ y. eqb (value y) k) xs) ≡ true)
least_with-parts value [] m = (m, refl, omega arith, refl, or_left (eqb m m) false (eq-eqb m m refl))
least_with-parts value (x ∷ xs) m =
    let rest = least_with-parts value xs (min (value x) m) in
    let k = rest.0 in (
      k,
      rest.1,
      omega (arith, rest.2),
      and_from (leb k (value x)) (list_all (λ y. leb k (value y)) xs) (le-leb k (value x) (omega (arith, rest.2))) rest.3,
      grind (arith, nat_tests, rest.4),
    )

pub least_with-first : {X : Type 0} (value : X → ℕ) (xs : List X) → least_with None (map value xs) ≡ option_map value (first_least value xs)
least_with-first value [] = refl
least_with-first value (x ∷ xs) =
    let k = least_with-parts value xs (value x) in
    k.1 ∙ sym (first_least-value value (x ∷ xs) k.0 (and_from (leb k.0 (value x)) (list_all (λ y. leb k.0 (value y)) xs) (le-leb k.0 (value x) k.2) k.3) k.4)

-- ---- where the numbers ascend, the first that passes is the least that does

all-kept : {X : Type 0} (p q : X → Bool) (xs : List X) → list_all q xs ≡ true → list_all q (filter p xs) ≡ true
all-kept p q xs h = All-list_all q (filter p xs) (All-filter (λ x. q x ≡ true) p xs (list_all-All q xs h))

pub least_in_order : (p : No → Bool) (ns : List No) → IsStrictlyIncreasing (map (λ a. a.number) ns) → first_least (λ a. a.number) (filter p ns) ≡ find p ns
least_in_order p [] h = refl
least_in_order p (s ∷ ns) h = elim (p s) as (λ b. first_least (λ a. a.number) (cond b (s ∷ filter p ns) (filter p ns)) ≡ cond b (Some s) (find p ns)) [
  | true ↦
      let above = and_parts (leb s.number s.number) (list_all (λ a. leb s.number a.number) ns) (first_is_least (λ _. true) (s ∷ ns) s.number h refl) in
      rw (above.0, all-kept p (λ a. leb s.number a.number) ns above.1) refl
  | false ↦ least_in_order p ns (tail-increasing s.number (map (λ a. a.number) ns) h)
]
