-- The learning paths are the growths of the empty set: the first of them, and the next after a list.
use Rattle.ls_paths.proofs.Vocabulary.{◌&&◌, ◌++◌, ◌+◌, ◌-◌, ◌<◌, ◌||◌, ◌∙◌, ◌∷◌, ◌≡◌, ◌≤◌, All-given, Bool, AreOn, Items, List, None, Option, Some, ℕ, [], and-false, and-true, and_from, and_parts, ap, ap₂, arith, both_ways, bound, cases_Bool, cases_eq, cases_lt, cases_order, cond, empty, eq-eqb, eqb, eqb-true, false, filter, filter-agree, filter-both, filter-map, find, find-filter, first_growth, first_next, flat_map, full, growths, has, has-full, has-minus, has-with, inl, inr, is_among, is_learning_space, is_lex_before, is_next, is_path, is_space, items, le-ltb, len, len-empty, len-parts, len-single, length, list_all, list_any, lt-ltb, ltb, ltb-true, map, max, members, minus, nat_tests, ne_eqb, next_item_after, next_growth, not, not_from_false, numbers_from, option_map, option_or, or_cases, or_left, or_right, orders_of, paths, refl, same_set, set_of, single, some_item, suc, sym, take, true, true≢false, union, union-empty_left, union-empty_right, unwrap_or, with, without, zero}
use Rattle.std.proofs.lemmas.List.Elements.{filter-append}
use Rattle.std.proofs.lemmas.List.Folds.{find-append}
use Rattle.ls_set.proofs.Sizes.{items-below}
use Rattle.ls_laws.specs.Walks.{IsWellGraded}
use Rattle.ls_laws.proofs.Interiors.{IsUnionFamily, space-from}
use Rattle.ls_laws.proofs.Climbs.{outward}
use Rattle.ls_laws.proofs.WellGraded.{learning-parts}

filter-same : {X : Type 0} (p q : X → Bool) (xs : List X) → ((x : X) → p x ≡ q x) → filter p xs ≡ filter q xs
filter-same p q xs e = filter-agree p q xs (All-given (λ x. p x ≡ q x) e xs)

-- what a search finds among the chosen
from-chosen : (p q : ℕ → Bool) (xs : List ℕ) → list_any p (filter q xs) ≡ true → (i : ℕ) × (q i ≡ true) × (p i ≡ true)
from-chosen p q [] h = absurd (true≢false (sym h))
from-chosen p q (x ∷ xs) h = elim (q x) as (λ b. q x ≡ b → list_any p (cond b (x ∷ filter q xs) (filter q xs)) ≡ true → (i : ℕ) × (q i ≡ true) × (p i ≡ true)) [
  | true ↦ λ e h. elim (or_cases (p x) (list_any p (filter q xs)) h) [ inl a ↦ (x, e, a) | inr a ↦ from-chosen p q xs a ]
  | false ↦ λ _ h. from-chosen p q xs h
] refl h

-- ---- lists

filter-out : {X : Type 0} (p : X → Bool) (xs : List X) → ((x : X) → p x ≡ false) → filter p xs ≡ []
filter-out p [] none = refl
filter-out p (x ∷ xs) none = rw (none x) (filter-out p xs none)

all-shifted : (p : ℕ → Bool) (i m : ℕ) → list_all p (numbers_from (suc i) m) ≡ list_all (λ j. p (suc j)) (numbers_from i m)
all-shifted p i zero = refl
all-shifted p i (suc m) = ap (λ b. p (suc i) && b) (all-shifted p (suc i) m)

all-same : (p q : ℕ → Bool) (xs : List ℕ) → ((j : ℕ) → p j ≡ q j) → list_all p xs ≡ list_all q xs
all-same p q [] e = refl
all-same p q (x ∷ xs) e = ap₂ (λ a b. a && b) (e x) (all-same p q xs e)

-- ---- paths from a member on

-- each set on the way from k is a member
abbrev is_path_from : List Items → Items → List ℕ → Bool
is_path_from f k order = list_all (λ j. is_among f (union k (set_of (take j order)))) (numbers_from 0 (suc (length order)))

path-none : (f : List Items) (k : Items) (order : List ℕ) → is_among f k ≡ false → is_path_from f k order ≡ false
path-none f k order h = ap (λ b. b && list_all (λ j. is_among f (union k (set_of (take j order)))) (numbers_from 1 (length order))) (ap (is_among f) (union-empty_right k) ∙ h)

pub with-union : (k s : Items) (x : ℕ) → union k (with s x) ≡ union (with k x) s
with-union k s x = same_set (union k (with s x)) (union (with k x) s) (λ i. grind (arith, members, nat_tests))

path-more : (f : List Items) (k : Items) (x : ℕ) (rest : List ℕ) → is_among f k ≡ true → is_path_from f k (x ∷ rest) ≡ is_path_from f (with k x) rest
path-more f k x rest h =
    ap (λ b. b && list_all (λ j. is_among f (union k (set_of (take j (x ∷ rest))))) (numbers_from 1 (suc (length rest)))) (ap (is_among f) (union-empty_right k) ∙ h)
    ∙ all-shifted (λ j. is_among f (union k (set_of (take j (x ∷ rest))))) 0 (suc (length rest))
    ∙ all-same (λ j. is_among f (union k (with (set_of (take j rest)) x))) (λ j. is_among f (union (with k x) (set_of (take j rest)))) (numbers_from 0 (suc (length rest))) (λ j. ap (is_among f) (with-union k (set_of (take j rest)) x))

minus-with : (w k : Items) (x : ℕ) → without (minus w k) x ≡ minus w (with k x)
minus-with w k x = same_set (without (minus w k) x) (minus w (with k x)) (λ i. grind (arith, members, nat_tests))

-- ---- the items outside a set

filter-range : (p q : ℕ → Bool) (i m : ℕ) → ((j : ℕ) → i ≤ j → j < i + m → p j ≡ q j) → filter p (numbers_from i m) ≡ filter q (numbers_from i m)
filter-range p q i zero e = refl
filter-range p q i (suc m) e = ap₂ (λ b l. cond b (i ∷ l) l) (e i (omega arith) (omega arith)) (filter-range p q (suc i) m (λ j a b. e j (omega arith) (omega arith)))

-- numbers past m that do not pass can be left out
filter-past : (p : ℕ → Bool) (i m t : ℕ) → m ≤ t → ((j : ℕ) → i + m ≤ j → p j ≡ false) → filter p (numbers_from i t) ≡ filter p (numbers_from i m)
filter-past p i zero zero l none = refl
filter-past p i zero (suc t) l none = rw (none i (omega arith)) (filter-past p (suc i) zero t (omega arith) (λ j a. none j (omega arith)))
filter-past p i (suc m) zero l none = absurd (omega arith)
filter-past p i (suc m) (suc t) l none = ap (λ l. cond (p i) (i ∷ l) l) (filter-past p (suc i) m t (omega arith) (λ j a. none j (omega arith)))

outside-numbers : (n : ℕ) (k : Items) (p : ℕ → Bool) → filter p (items (minus (full n) k)) ≡ filter (λ i. not (has k i) && p i) (numbers_from 0 n)
outside-numbers n k p =
    let s = minus (full n) k in
    let t = max n (bound s) in
    ap (filter p) (items-below s t (omega arith) ∙ filter-past (has s) 0 n t (omega arith) (λ j a. has-minus (full n) k j ∙ rw (has-full n j ∙ le-ltb j n (omega arith)) refl))
    ∙ filter-both (has s) p (numbers_from 0 n)
    ∙ filter-range (λ i. has s i && p i) (λ i. not (has k i) && p i) 0 n (λ j _ b. ap (λ c. c && p j) (has-minus (full n) k j ∙ rw (has-full n j ∙ lt-ltb j n (omega arith)) refl))

-- the orders of what is left that are paths are the growths
pub paths-growths : (n : ℕ) (f : List Items) (m : ℕ) (k : Items) → is_among f k ≡ true → filter (is_path_from f k) (orders_of m (minus (full n) k)) ≡ growths n f m k
unfolding orders_of
paths-growths n f zero k h = rw (ap (λ b. b && true) (ap (is_among f) (union-empty_right k) ∙ h)) refl
paths-growths n f (suc m) k h = each (λ x a. paths-growths n f m (with k x) a) (items (minus (full n) k)) ∙ ap (flat_map grown) (outside-numbers n k (λ i. is_among f (with k i)))
  where
    headed : ℕ → List (List ℕ)
    headed i = map (λ rest. i ∷ rest) (orders_of m (without (minus (full n) k) i))

    grown : ℕ → List (List ℕ)
    grown i = map (λ rest. i ∷ rest) (growths n f m (with k i))

    one : (x : ℕ) → filter (is_path_from f k) (headed x) ≡ map (λ rest. x ∷ rest) (filter (is_path_from f (with k x)) (orders_of m (minus (full n) (with k x))))
    one x =
        filter-map (is_path_from f k) (λ rest. x ∷ rest) (orders_of m (without (minus (full n) k) x))
        ∙ ap (map (λ rest. x ∷ rest)) (filter-same (λ rest. is_path_from f k (x ∷ rest)) (is_path_from f (with k x)) (orders_of m (without (minus (full n) k) x)) (λ rest. path-more f k x rest h)
        ∙ ap (λ s. filter (is_path_from f (with k x)) (orders_of m s)) (minus-with (full n) k x))

    each : ((x : ℕ) → is_among f (with k x) ≡ true → filter (is_path_from f (with k x)) (orders_of m (minus (full n) (with k x))) ≡ growths n f m (with k x))
        → (xs : List ℕ) → filter (is_path_from f k) (flat_map headed xs) ≡ flat_map grown (filter (λ i. is_among f (with k i)) xs)
    each more [] = refl
    each more (x ∷ xs) =
        filter-append (is_path_from f k) (headed x) (flat_map headed xs) ∙ ap (λ l. filter (is_path_from f k) (headed x) ++ l) (each more xs) ∙ elim (cases_Bool (is_among f (with k x))) [
          | inl a ↦ rw a (ap (λ l. l ++ flat_map grown (filter (λ i. is_among f (with k i)) xs)) (one x ∙ ap (map (λ rest. x ∷ rest)) (more x a)))
          | inr a ↦ rw a (ap (λ l. l ++ flat_map grown (filter (λ i. is_among f (with k i)) xs)) (one x ∙ ap (map (λ rest. x ∷ rest)) (filter-out (is_path_from f (with k x)) (orders_of m (minus (full n) (with k x))) (λ rest. path-none f (with k x) rest a))))
        ]

pub paths-are : (n : ℕ) (f : List Items) → is_among f empty ≡ true → paths n f ≡ growths n f n empty
unfolding paths
paths-are n f h =
    filter-same (is_path f) (is_path_from f empty) (orders_of n (full n)) (λ order. all-same (λ j. is_among f (set_of (take j order))) (λ j. is_among f (union empty (set_of (take j order)))) (numbers_from 0 (suc (length order))) (λ j. ap (is_among f) (sym (union-empty_left (set_of (take j order))))))
    ∙ ap (λ s. filter (is_path_from f empty) (orders_of n s)) (sym (same_set (minus (full n) empty) (full n) (λ i. grind (arith, members))))
    ∙ paths-growths n f n empty h

-- ---- the first

-- a learning space, as its laws take it
pub record IsLearning (n : ℕ) (f : List Items) : Type 0 where
  pub family : IsUnionFamily n f
  pub graded : IsWellGraded f
  pub holds_full : is_among f (full n) ≡ true

pub learning-from : (n : ℕ) (f : List Items) → AreOn n f → is_learning_space (full n) f ≡ true → IsLearning n f
learning-from n f small h =
    let p = learning-parts n f small h in
    let s = space-from (full n) f (and_parts (is_space (full n) f) _ h).0 in
    record { family = p.0; graded = p.1; holds_full = s.holds_whole }

one-fewer : (s : Items) (i : ℕ) → has s i ≡ true → len s ≡ suc (len (without s i))
one-fewer s i h =
    let x : len s ≡ len (single i) + len (without s i) = len-parts (single i) (without s i) s (λ j. elim (cases_eq j i) [
      | inl e ↦ let a : has s j ≡ true = ap (has s) e ∙ h in grind (arith, members, nat_tests)
      | inr n ↦ grind (arith, members, nat_tests)
    ]) (λ j. grind (arith, members, nat_tests)) in
    let y : len (single i) ≡ 1 = len-single i in
    omega arith

fewer-left : (n m : ℕ) (k : Items) (i : ℕ) → has (minus (full n) k) i ≡ true → len (minus (full n) k) ≡ suc m → len (minus (full n) (with k i)) ≡ m
fewer-left n m k i h e =
    let x = one-fewer (minus (full n) k) i h in
    let y : len (without (minus (full n) k) i) ≡ len (minus (full n) (with k i)) = ap len (minus-with (full n) k i) in
    omega arith

any-numbers : (p : ℕ → Bool) (x i m : ℕ) → i ≤ x → x < i + m → p x ≡ true → list_any p (numbers_from i m) ≡ true
any-numbers p x i zero a b c = absurd (omega arith)
any-numbers p x i (suc m) a b c = elim (cases_eq i x) [
  | inl e ↦ or_left (p i) _ (ap p e ∙ c)
  | inr e ↦ or_right (p i) (list_any p (numbers_from (suc i) m)) (any-numbers p x (suc i) m (omega arith) (omega arith) c)
]

-- a member that lacks an item has one that can be added
pub some-next-outside : (n : ℕ) (f : List Items) (k : Items) (x : ℕ) → IsLearning n f → is_among f k ≡ true → has (minus (full n) k) x ≡ true → list_any (is_next f k) (numbers_from 0 n) ≡ true
some-next-outside n f k x learning c h =
    let family = learning.family in
    let a : has (full n) x ≡ true = grind (arith, members) in
    let b : has k x ≡ false = grind (arith, members) in
    let r = outward f family.holds_empty family.holds_unions learning.graded k (full n) x c learning.holds_full a b in
    let l : r.0 < n = ltb-true r.0 n (sym (has-full n r.0) ∙ r.1) in
    any-numbers (is_next f k) r.0 0 n (omega arith) (omega arith) (and_from (not (has k r.0)) (is_among f (with k r.0)) (not_from_false (has k r.0) r.2) r.3)

pub some-next : (n m : ℕ) (f : List Items) (k : Items) → IsLearning n f → is_among f k ≡ true → len (minus (full n) k) ≡ suc m → list_any (is_next f k) (numbers_from 0 n) ≡ true
some-next n m f k learning c e = elim (some_item (minus (full n) k)) [
  | inl none ↦ let x : len (minus (full n) k) ≡ 0 = ap len none ∙ len-empty in absurd (omega arith)
  | inr some ↦ some-next-outside n f k some.0 learning c some.1
]

-- a filter begins with what a search finds
pub record Begins (p : ℕ → Bool) (xs : List ℕ) : Type 0 where
  pub first : ℕ
  pub rest : List ℕ
  pub found : find p xs ≡ Some first
  pub chosen : filter p xs ≡ first ∷ rest
  pub passes : p first ≡ true

pub begins : (p : ℕ → Bool) (xs : List ℕ) → list_any p xs ≡ true → Begins p xs
begins p [] h = absurd (true≢false (sym h))
begins p (x ∷ xs) h = elim (cases_Bool (p x)) [
  | inl a ↦ record { first = x; rest = filter p xs; found = rw a refl; chosen = rw a refl; passes = a }
  | inr a ↦
      let r = begins p xs (rw a at h) in
      record { first = r.first; rest = r.rest; found = rw a r.found; chosen = rw a r.chosen; passes = r.passes }
]

-- what is left once an item that can be added is
pub next-left : (n m : ℕ) (f : List Items) (k : Items) (i : ℕ) → AreOn n f → is_next f k i ≡ true → len (minus (full n) k) ≡ suc m → (is_among f (with k i) ≡ true) × (len (minus (full n) (with k i)) ≡ m)
next-left n m f k i small h e =
    let p = and_parts (not (has k i)) (is_among f (with k i)) h in
    let in_full : has (full n) i ≡ true = small (with k i) p.1 i (has-with k i i ∙ or_right (has k i) (eqb i i) (eq-eqb i i refl)) in
    (p.1, fewer-left n m k i (has-minus (full n) k i ∙ and_from (has (full n) i) (not (has k i)) in_full p.0) e)

pub growths-first : (n : ℕ) (f : List Items) (m : ℕ) (k : Items) → IsLearning n f → is_among f k ≡ true → len (minus (full n) k) ≡ m → (rest : List (List ℕ)) × (growths n f m k ≡ first_growth n f m k ∷ rest)
growths-first n f zero k learning c e = ([], refl)
growths-first n f (suc m) k learning c e =
    let b = begins (is_next f k) (numbers_from 0 n) (some-next n m f k learning c e) in
    let i = b.first in
    let p = next-left n m f k i learning.family.small b.passes e in
    let r = growths-first n f m (with k i) learning p.0 p.1 in
    let grown = λ (j : ℕ). map (λ rest. j ∷ rest) (growths n f m (with k j)) in
    let same : first_next n f k ≡ i = ap (λ o. unwrap_or o 0) b.found in (
      map (λ rest. i ∷ rest) r.0 ++ flat_map grown b.rest,
      ap (flat_map grown) b.chosen ∙ ap (λ l. map (λ rest. i ∷ rest) l ++ flat_map grown b.rest) r.1
          ∙ ap (λ j. (j ∷ first_growth n f m (with k j)) ∷ (map (λ rest. i ∷ rest) r.0 ++ flat_map grown b.rest)) (sym same),
    )

-- ---- the next

-- lists behind one item
find-headed : (o i : ℕ) (os : List ℕ) (ls : List (List ℕ)) → find (is_lex_before (o ∷ os)) (map (λ rest. i ∷ rest) ls) ≡ option_map (λ rest. i ∷ rest) (find (λ rest. ltb o i || (eqb o i && is_lex_before os rest)) ls)
find-headed o i os [] = refl
find-headed o i os (l ∷ ls) = elim (ltb o i || (eqb o i && is_lex_before os l)) as (λ b. cond b (Some (i ∷ l)) (find (is_lex_before (o ∷ os)) (map (λ rest. i ∷ rest) ls)) ≡ option_map (λ rest. i ∷ rest) (cond b (Some l) (find (λ rest. ltb o i || (eqb o i && is_lex_before os rest)) ls))) [
  | true ↦ refl
  | false ↦ find-headed o i os ls
]

find-same : {X : Type 0} (p q : X → Bool) (xs : List X) → ((x : X) → p x ≡ q x) → find p xs ≡ find q xs
find-same p q [] h = refl
find-same p q (x ∷ xs) h = ap₂ (λ b o. cond b (Some x) o) (h x) (find-same p q xs h)

find-never : {X : Type 0} (p : X → Bool) (xs : List X) → ((x : X) → p x ≡ false) → find p xs ≡ None
find-never p [] h = refl
find-never p (x ∷ xs) h = rw (h x) (find-never p xs h)

-- all behind a lesser item come before; those behind the same item as the rest does; all behind a greater one come after
headed-less : (o i : ℕ) (os : List ℕ) (ls : List (List ℕ)) → i < o → find (is_lex_before (o ∷ os)) (map (λ rest. i ∷ rest) ls) ≡ None
headed-less o i os ls l =
    find-headed o i os ls ∙ ap (option_map (λ rest. i ∷ rest)) (find-never (λ rest. ltb o i || (eqb o i && is_lex_before os rest)) ls (λ rest. rw (le-ltb o i (omega arith), ne_eqb o i (λ e. absurd (omega arith))) refl))

headed-same : (o : ℕ) (os : List ℕ) (ls : List (List ℕ)) → find (is_lex_before (o ∷ os)) (map (λ rest. o ∷ rest) ls) ≡ option_map (λ rest. o ∷ rest) (find (is_lex_before os) ls)
headed-same o os ls =
    find-headed o o os ls ∙ ap (option_map (λ rest. o ∷ rest)) (find-same (λ rest. ltb o o || (eqb o o && is_lex_before os rest)) (is_lex_before os) ls (λ rest. rw (le-ltb o o (omega arith), eq-eqb o o refl) refl))

headed-more : (o i : ℕ) (os : List ℕ) (l : List ℕ) (ls : List (List ℕ)) → o < i → find (is_lex_before (o ∷ os)) (map (λ rest. i ∷ rest) (l ∷ ls)) ≡ Some (i ∷ l)
headed-more o i os l ls h = rw (lt-ltb o i h) refl

-- a search through the growths by each of ascending items
none-listed : (p : ℕ → Bool) (o i m : ℕ) → o < i → list_any (λ j. eqb o j) (filter p (numbers_from i m)) ≡ false
none-listed p o i zero h = refl
none-listed p o i (suc m) h = elim (p i) as (λ b. list_any (λ j. eqb o j) (cond b (i ∷ filter p (numbers_from (suc i) m)) (filter p (numbers_from (suc i) m))) ≡ false) [
  | true ↦ rw (ne_eqb o i (λ e. absurd (omega arith))) (none-listed p o (suc i) m (omega arith))
  | false ↦ none-listed p o (suc i) m (omega arith)
]

find-grown : (p : ℕ → Bool) (o : ℕ) (os : List ℕ) (lists : ℕ → List (List ℕ)) (first : ℕ → List ℕ) (next : Option (List ℕ))
    → (p o ≡ true → find (is_lex_before os) (lists o) ≡ next)
    → ((i : ℕ) → p i ≡ true → (rest : List (List ℕ)) × (lists i ≡ first i ∷ rest))
    → (i m : ℕ) → find (is_lex_before (o ∷ os)) (flat_map (λ j. map (λ rest. j ∷ rest) (lists j)) (filter p (numbers_from i m)))
    ≡ option_or (cond (list_any (λ j. eqb o j) (filter p (numbers_from i m))) (option_map (λ rest. o ∷ rest) next) None)
    (option_map (λ j. j ∷ first j) (find (λ j. ltb o j) (filter p (numbers_from i m))))
find-grown p o os lists first next same more i zero = refl
find-grown p o os lists first next same more i (suc m) = elim (cases_Bool (p i)) [
  | inr a ↦ rw a (find-grown p o os lists first next same more (suc i) m)
  | inl a ↦ rw a (find-append (is_lex_before (o ∷ os)) (map (λ rest. i ∷ rest) (lists i)) (flat_map (λ j. map (λ rest. j ∷ rest) (lists j)) (filter p (numbers_from (suc i) m)))
      ∙ elim (cases_order i o) [
        | inl e ↦ at_same a e (find-grown p o os lists first next same more (suc i) m)
        | inr s ↦ elim s [
          | inl l ↦ at_less a l (find-grown p o os lists first next same more (suc i) m)
          | inr l ↦ at_more a l
        ]
      ])
]
  where
    later : List ℕ
    later = filter p (numbers_from (suc i) m)

    grown : List (List ℕ)
    grown = flat_map (λ j. map (λ rest. j ∷ rest) (lists j)) later

    at_less : p i ≡ true → i < o
        → find (is_lex_before (o ∷ os)) (flat_map (λ j. map (λ rest. j ∷ rest) (lists j)) (filter p (numbers_from (suc i) m)))
        ≡ option_or (cond (list_any (λ j. eqb o j) (filter p (numbers_from (suc i) m))) (option_map (λ rest. o ∷ rest) next) None) (option_map (λ j. j ∷ first j) (find (λ j. ltb o j) (filter p (numbers_from (suc i) m))))
        → option_or (find (is_lex_before (o ∷ os)) (map (λ rest. i ∷ rest) (lists i))) (find (is_lex_before (o ∷ os)) grown)
        ≡ option_or (cond (eqb o i || list_any (λ j. eqb o j) later) (option_map (λ rest. o ∷ rest) next) None) (option_map (λ j. j ∷ first j) (cond (ltb o i) (Some i) (find (λ j. ltb o j) later)))
    at_less a l rest = rw (headed-less o i os (lists i) l, ne_eqb o i (λ e. absurd (omega arith)), le-ltb o i (omega arith)) rest

    at_more : p i ≡ true → o < i
        → option_or (find (is_lex_before (o ∷ os)) (map (λ rest. i ∷ rest) (lists i))) (find (is_lex_before (o ∷ os)) grown)
        ≡ option_or (cond (eqb o i || list_any (λ j. eqb o j) later) (option_map (λ rest. o ∷ rest) next) None) (option_map (λ j. j ∷ first j) (cond (ltb o i) (Some i) (find (λ j. ltb o j) later)))
    at_more a l =
        let r = more i a in
        ap (λ ls. option_or (find (is_lex_before (o ∷ os)) (map (λ rest. i ∷ rest) ls)) (find (is_lex_before (o ∷ os)) grown)) r.1
        ∙ rw (headed-more o i os (first i) r.0 l, ne_eqb o i (λ e. absurd (omega arith)), none-listed p o (suc i) m (omega arith), lt-ltb o i l) refl

    at_same : p i ≡ true → i ≡ o
        → find (is_lex_before (o ∷ os)) (flat_map (λ j. map (λ rest. j ∷ rest) (lists j)) (filter p (numbers_from (suc i) m)))
        ≡ option_or (cond (list_any (λ j. eqb o j) (filter p (numbers_from (suc i) m))) (option_map (λ rest. o ∷ rest) next) None) (option_map (λ j. j ∷ first j) (find (λ j. ltb o j) (filter p (numbers_from (suc i) m))))
        → option_or (find (is_lex_before (o ∷ os)) (map (λ rest. i ∷ rest) (lists i))) (find (is_lex_before (o ∷ os)) grown)
        ≡ option_or (cond (eqb o i || list_any (λ j. eqb o j) later) (option_map (λ rest. o ∷ rest) next) None) (option_map (λ j. j ∷ first j) (cond (ltb o i) (Some i) (find (λ j. ltb o j) later)))
    at_same a e rest =
        let here : find (is_lex_before (o ∷ os)) (map (λ rest. i ∷ rest) (lists i)) ≡ option_map (λ rest. o ∷ rest) next =
        ap (λ j. find (is_lex_before (o ∷ os)) (map (λ rest. j ∷ rest) (lists j))) e ∙ headed-same o os (lists o) ∙ ap (option_map (λ rest. o ∷ rest)) (same (ap p (sym e) ∙ a)) in
        let tail : find (is_lex_before (o ∷ os)) grown ≡ option_map (λ j. j ∷ first j) (find (λ j. ltb o j) later) = rest ∙ rw (none-listed p o (suc i) m (omega arith)) refl in
        rw (here, eq-eqb o i (sym e), le-ltb o i (omega arith), tail) refl

-- those of the items that can be added that come after o
find-after : (p : ℕ → Bool) (o i m : ℕ) → i ≤ suc o → find (λ j. p j && ltb o j) (numbers_from i m) ≡ find p (numbers_from (suc o) (i + m - suc o))
find-after p o i zero l = sym (ap (λ d. find p (numbers_from (suc o) d)) (let e : i + 0 - suc o ≡ 0 = omega arith in e))
find-after p o i (suc m) l = elim (cases_lt o i) [
  | inl g ↦
      let e : i ≡ suc o = omega arith in
      let d : i + suc m - suc o ≡ suc m = omega arith in
      all-after i (suc m) g ∙ ap₂ (λ a b. find p (numbers_from a b)) e (sym d)
  | inr g ↦
      rw (le-ltb o i g, and-false (p i)) (find-after p o (suc i) m (omega arith) ∙ ap (λ d. find p (numbers_from (suc o) d)) (let e : suc i + m - suc o ≡ i + suc m - suc o = omega arith in e))
]
  where
    all-after : (i m : ℕ) → o < i → find (λ j. p j && ltb o j) (numbers_from i m) ≡ find p (numbers_from i m)
    all-after i zero g = refl
    all-after i (suc m) g = rw (lt-ltb o i g, and-true (p i)) (ap (λ r. cond (p i) (Some i) r) (all-after (suc i) m (omega arith)))

next-after : (n : ℕ) (f : List Items) (k : Items) (o : ℕ) → find (λ j. ltb o j) (filter (is_next f k) (numbers_from 0 n)) ≡ next_item_after n f k o
next-after n f k o =
    find-filter (is_next f k) (λ j. ltb o j) (numbers_from 0 n) ∙ find-after (is_next f k) o 0 n (omega arith) ∙ ap (λ d. find (is_next f k) (numbers_from (suc o) d)) (let e : 0 + n - suc o ≡ n - suc o = omega arith in e)

next-listed : (n : ℕ) (f : List Items) (k : Items) (o : ℕ) → AreOn n f → list_any (λ j. eqb o j) (filter (is_next f k) (numbers_from 0 n)) ≡ is_next f k o
next-listed n f k o small = both_ways (list_any (λ j. eqb o j) (filter (is_next f k) (numbers_from 0 n))) (is_next f k o)
    (λ h. let r = from-chosen (λ j. eqb o j) (is_next f k) (numbers_from 0 n) h in ap (is_next f k) (eqb-true o r.0 r.2) ∙ r.1)
    (λ h.
    let p = and_parts (not (has k o)) (is_among f (with k o)) h in
    let l : o < n = ltb-true o n (sym (has-full n o) ∙ small (with k o) p.1 o (has-with k o o ∙ or_right (has k o) (eqb o o) (eq-eqb o o refl))) in
    any-chosen (λ j. eqb o j) (is_next f k) o 0 n (omega arith) (omega arith) h (eq-eqb o o refl))
  where
    any-chosen : (p q : ℕ → Bool) (x i m : ℕ) → i ≤ x → x < i + m → q x ≡ true → p x ≡ true → list_any p (filter q (numbers_from i m)) ≡ true
    any-chosen p q x i zero a b c d = absurd (omega arith)
    any-chosen p q x i (suc m) a b c d = elim (cases_eq i x) [
      | inl e ↦ rw (ap q e ∙ c) (or_left (p i) _ (ap p e ∙ d))
      | inr e ↦
          let rest = any-chosen p q x (suc i) m (omega arith) (omega arith) c d in
          elim (q i) as (λ y. list_any p (cond y (i ∷ filter q (numbers_from (suc i) m)) (filter q (numbers_from (suc i) m))) ≡ true) [
            | true ↦ or_right (p i) _ rest
            | false ↦ rest
          ]
    ]

pub growths-next : (n : ℕ) (f : List Items) (order : List ℕ) (k : Items) → IsLearning n f → is_among f k ≡ true → len (minus (full n) k) ≡ length order
    → find (is_lex_before order) (growths n f (length order) k) ≡ next_growth n f order k
growths-next n f [] k learning c e = refl
growths-next n f (o ∷ os) k learning c e =
    let small = learning.family.small in
    let lists = λ (j : ℕ). growths n f (length os) (with k j) in
    let first = λ (j : ℕ). first_growth n f (length os) (with k j) in
    let next = next_growth n f os (with k o) in
    find-grown (is_next f k) o os lists first next
    (λ h. let p = next-left n (length os) f k o small h e in growths-next n f os (with k o) learning p.0 p.1)
    (λ i h. let p = next-left n (length os) f k i small h e in growths-first n f (length os) (with k i) learning p.0 p.1)
    0 n
    ∙ ap₂ (λ b r. option_or (cond b (option_map (λ rest. o ∷ rest) next) None) (option_map (λ j. j ∷ first j) r)) (next-listed n f k o small) (next-after n f k o)
