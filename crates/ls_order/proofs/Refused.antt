-- The first item, or pair of items, that keeps a surmise function from being a partial order, and
-- pairs from making one.
use Rattle.std.proofs.Common.{ℕ, zero, suc, ◌+◌, ◌<◌, ◌≤◌, ◌≡◌, ◌↔◌, inl, inr, Bool, true, false}
use Rattle.std.proofs.Common.{cond, not, ◌&&◌, eqb, ltb, List, [], ◌∷◌, ◌++◌, map, find, length}
use Rattle.std.proofs.Common.{Option, Some, None, option_map, refl, sym, ap, ◌∙◌, arith, true≢false}
use Rattle.std.proofs.Common.{ltb-false, eqb-true}
use Rattle.std.specs.List.{list_all}
use Rattle.std.proofs.lemmas.Bool.{cases_Bool, cases_eq, cases_order, and_parts, and_from, not-true}
use Rattle.std.specs.Option.{option_or}
use Rattle.std.proofs.Math.Bool.{and_assoc}
use Rattle.ls_lists.proofs.Options.{none_from_map}
use Rattle.ls_set.specs.ItemSet.{Items, has, numbers_from}
use Rattle.ls_set.proofs.Sets.{both_ways}
use Rattle.ls_theory.specs.Words.{pairs}
use Rattle.ls_theory.specs.Starts.{Clauses}
use Rattle.ls_theory.specs.Compatible.{compat}
use Rattle.ls_theory.specs.Clauses.{clauses_of}
use Rattle.ls_clauses.specs.Surmise.{IsSurmise}
use Rattle.ls_origins.specs.Relations.{below_of, strictly_below, two_clauses, quasi_pair}
use Rattle.ls_origins.specs.Relations.{first_cycle, first_clauses, relation_fault}
use Rattle.ls_origins.specs.declared.relation_fault.RelationFault.TheVariants.{TwoClauses, Quasi}
use Rattle.ls_order.specs.OneEach.{HasOneEach}
use Rattle.ls_order.specs.Orders.{IsPreorder, IsAntisymmetric, IsOrder, is_meet_closed}
use Rattle.ls_order.specs.Orders.{has_no_cycle}
use Rattle.ls_origins.proofs.Numbered.{every-number, number-every}
use Rattle.ls_order.proofs.Related.{below-small}
use Rattle.ls_order.proofs.OneEach.{surmise-meets, one-each, clauses-preorder}

-- none is found exactly where all fail
pub none-found : {X : Type 0} (p : X → Bool) (xs : List X)
    → (find p xs ≡ None) ↔ (list_all (λ x. not (p x)) xs ≡ true)
none-found p xs = (all p xs, none p xs)
  where
    all : {X : Type 0} (p : X → Bool) (xs : List X) → find p xs ≡ None
        → list_all (λ x. not (p x)) xs ≡ true
    all p [] e = refl
    all p (x ∷ xs) e =
        elim
        (p x)
        as (λ b. cond b (Some x) (find p xs) ≡ None → (not b && list_all (λ x. not (p x)) xs)
        ≡ true) [ true ↦ λ e. cc | false ↦ λ e. all p xs e ] e

    none : {X : Type 0} (p : X → Bool) (xs : List X) → list_all (λ x. not (p x)) xs ≡ true
        → find p xs ≡ None
    none p [] h = refl
    none p (x ∷ xs) h =
        elim
        (p x)
        as (λ b. (not b && list_all (λ x. not (p x)) xs) ≡ true → cond b (Some x) (find p xs)
        ≡ None) [ true ↦ λ h. absurd (true≢false (sym h)) | false ↦ λ h. none p xs h ] h

-- ---- two clauses

at_least_one : {X : Type 0} (xs : List X) → ¬ (xs ≡ []) → not (ltb 1 (length xs))
    ≡ eqb (length xs) 1
at_least_one [] some = absurd (some refl)
at_least_one (x ∷ []) some = refl
at_least_one (x ∷ y ∷ xs) some =
    both_ways (not (ltb 1 (length (x ∷ y ∷ xs)))) (eqb (length (x ∷ y ∷ xs)) 1)
    (λ a. let l : length (x ∷ y ∷ xs) ≤ 1 = ltb-false 1 (length (x ∷ y ∷ xs))
    (not-true (ltb 1 (length (x ∷ y ∷ xs))) a) in absurd (omega arith))
    (λ a. let e : length (x ∷ y ∷ xs)
    ≡ 1 = eqb-true (length (x ∷ y ∷ xs)) 1 a in absurd (omega arith))

pub two-clauses : (n : ℕ) (clauses : List (List Items)) → IsSurmise n clauses
    → (two_clauses n clauses ≡ None) ↔ (is_meet_closed (compat n (Clauses clauses) []) ≡ true)
two-clauses n clauses s =
    let two = λ (q : ℕ). ltb 1 (length (clauses_of clauses q)) in
    let one = λ (q : ℕ). eqb (length (clauses_of clauses q)) 1 in
    let f = none-found two (numbers_from 0 n) in (
      λ e. surmise-meets n clauses s ∙ number-every one 0 n (λ q l.
          let below : q < n = omega arith in
          sym (at_least_one (clauses_of clauses q) (s.has_clause q below)) ∙ every-number
          (λ q. not (two q)) 0 n q (omega arith) (omega arith) (f.0 e)),
      λ h. f.1 (number-every (λ q. not (two q)) 0 n (λ q l.
          let below : q < n = omega arith in
          at_least_one (clauses_of clauses q) (s.has_clause q below) ∙ every-number one 0 n q
          (omega arith) (omega arith) (sym (surmise-meets n clauses s) ∙ h))),
    )

-- ---- pairs of numbers

all-append : {X : Type 0} (p : X → Bool) (xs ys : List X) → list_all p (xs ++ ys)
    ≡ (list_all p xs && list_all p ys)
all-append p [] ys = refl
all-append p (x ∷ xs) ys =
    ap (λ b. p x && b) (all-append p xs ys) ∙ sym (and_assoc (p x) (list_all p xs) (list_all p ys))

all-map : {X Y : Type 0} (p : Y → Bool) (g : X → Y) (xs : List X) → list_all p (map g xs)
    ≡ list_all (λ x. p (g x)) xs
all-map p g [] = refl
all-map p g (x ∷ xs) = ap (λ b. p (g x) && b) (all-map p g xs)

every-pair : (p : ℕ × ℕ → Bool) (i m a b : ℕ) → i ≤ a → a < b → b < i + m
    → list_all p (pairs (numbers_from i m)) ≡ true → p (a, b) ≡ true
every-pair p i zero a b h k l e = absurd (omega arith)
every-pair p i (suc m) a b h k l e =
    let x =
    and_parts (list_all p (map (λ y. (i, y)) (numbers_from (suc i) m)))
    (list_all p (pairs (numbers_from (suc i) m)))
    (sym
    (all-append p (map (λ y. (i, y)) (numbers_from (suc i) m)) (pairs (numbers_from (suc i) m)))
    ∙ e) in
    elim (cases_eq a i) [
      | inl same ↦ ap (λ c. p (c, b)) same ∙ every-number (λ y. p (i, y)) (suc i) m b (omega arith)
          (omega arith) (sym (all-map p (λ y. (i, y)) (numbers_from (suc i) m)) ∙ x.0)
      | inr other ↦ every-pair p (suc i) m a b (omega arith) k (omega arith) x.1
    ]

every-later : (p : ℕ → Bool) (i m : ℕ) → ((j : ℕ) → i ≤ j → p j ≡ true)
    → list_all p (numbers_from i m) ≡ true
every-later p i zero h = refl
every-later p i (suc m) h =
    and_from (p i) (list_all p (numbers_from (suc i) m)) (h i (omega arith))
    (every-later p (suc i) m (λ j l. h j (omega arith)))

pair-every : (p : ℕ × ℕ → Bool) (i m : ℕ) → ((a b : ℕ) → a < b → p (a, b) ≡ true)
    → list_all p (pairs (numbers_from i m)) ≡ true
pair-every p i zero h = refl
pair-every p i (suc m) h =
    all-append p (map (λ y. (i, y)) (numbers_from (suc i) m)) (pairs (numbers_from (suc i) m))
    ∙ and_from (list_all p (map (λ y. (i, y)) (numbers_from (suc i) m)))
    (list_all p (pairs (numbers_from (suc i) m)))
    (all-map p (λ y. (i, y)) (numbers_from (suc i) m) ∙ every-later (λ y. p (i, y)) (suc i) m
    (λ j l. h i j (omega arith)))
    (pair-every p (suc i) m h)

-- ---- two items below each other

pub quasi-pairs : (n : ℕ) (below : List Items) → IsPreorder n below
    → (quasi_pair n below ≡ None) ↔ IsAntisymmetric below
quasi-pairs n below p =
    let each = λ (x : ℕ × ℕ). has (below_of below x.1) x.0 && has (below_of below x.0) x.1 in
    let f = none-found each (pairs (numbers_from 0 n)) in
    let apart : (a b : ℕ) → quasi_pair n below ≡ None → has (below_of below b) a ≡ true
    → has (below_of below a) b ≡ true → a < b → ⊥ = λ a b e u v l.
    let small = below-small n below a b p v in
    true≢false
    (sym (and_from (has (below_of below b) a) (has (below_of below a) b) u v) ∙ not-true
    (each (a, b))
    (every-pair (λ x. not (each x)) 0 n a b (omega arith) l (omega arith) (f.0 e))) in (
      λ e q r a b. elim (cases_order q r) [
        | inl same ↦ same
        | inr (inl less) ↦ absurd (apart q r e b a less)
        | inr (inr more) ↦ absurd (apart r q e a b more)
      ],
      λ anti. f.1 (pair-every (λ x. not (each x)) 0 n (λ a b l. elim (cases_Bool (each (a, b))) [
        | inr none ↦ ap not none
        | inl both ↦
            let x = and_parts (has (below_of below b) a) (has (below_of below a) b) both in
            let e : b ≡ a = anti b a x.0 x.1 in
            absurd (omega arith)
      ])),
    )

-- ---- cycles

pub cycles : (n : ℕ) (pairs : List (ℕ × ℕ))
    → (first_cycle n pairs ≡ None) ↔ (has_no_cycle n pairs ≡ true)
cycles n pairs = none-found (λ q. has (strictly_below n pairs q) q) (numbers_from 0 n)

-- ---- no fault

none-of : {X : Type 0} (a b : Option X) → option_or a b ≡ None → (a ≡ None) × (b ≡ None)
none-of None b e = (refl, e)
none-of (Some x) b e = absurd (cc e)

pub faultless-order : (n : ℕ) (clauses : List (List Items)) → IsSurmise n clauses
    → relation_fault n clauses ≡ None → IsOrder n (first_clauses clauses) × HasOneEach n clauses
unfolding relation_fault
faultless-order n clauses s e =
    let x =
    none-of (option_map TwoClauses (two_clauses n clauses))
    (option_map (λ p. Quasi p.0 p.1) (quasi_pair n (first_clauses clauses))) e in
    let each =
    one-each
    n clauses
    s ((two-clauses n clauses s).0 (none_from_map TwoClauses (two_clauses n clauses) x.0)) in
    let p = clauses-preorder n clauses each in (
      record {
        preorder = p;
        antisymmetric = (quasi-pairs n (first_clauses clauses) p).0
            (none_from_map (λ p. Quasi p.0 p.1) (quasi_pair n (first_clauses clauses)) x.1);
      },
      each,
    )
