-- Clauses without a flaw are a surmise function once they are put in order, and a surmise function has no flaw.
use Rattle.ls_clauses.proofs.Vocabulary.{◌+◌, ◌-◌, ◌<◌, ◌==◌, ◌∙◌, ◌∷◌, ◌≡◌, ◌≢◌, Clauses, Comparable, Decides-is_same, AreOn, IsPutInOrder, IsSurmise, Items, List, NoClause, None, NotClosed, Option, Reflexive, Some, ℕ, [], ap, ap₂, are_comparable, arith, bound, cases_order, clause_at, clauses_of, comes_before, comes_before-irreflexive, comparable_at, comparable_in, false, false_from_ne_true, find, first_some, flaw, has, has_clause_within, inl, inr, is_among, is_same, is_within, items, lacking_in, length, meets, ne_eqb, no_clause, not, not-false, not_from_true, numbers_from, option_map, option_or, or_cases, or_left, or_right, places_after, places_of, refl, same_truth, subst, suc, sym, true, true≢false, unclosed_at, unclosed_in, zero}
use Rattle.ls_lists.specs.Lists.{IsIn}
use Rattle.ls_lists.proofs.Options.{none_from_map}
use Rattle.ls_lists.proofs.Elements.{filter-in}
use Rattle.ls_lists.proofs.Sorted.{find-no_element, find-none_is}
use Rattle.ls_laws.proofs.Listed.{in-numbers, numbers-in, in-items}
use Rattle.ls_clauses.proofs.Places.{place-of, among-at, in_order-at}
use Rattle.ls_clauses.proofs.Clauses.{some_set, clause-within, within-clause, meets-clause, meets-from}

-- ---- searches that find nothing

or-none : {X : Type 0} (o p : Option X) → option_or o p ≡ None → (o ≡ None) × (p ≡ None)
or-none None p e = (refl, e)
or-none (Some x) p e = absurd (let z : Some x ≡ None = e in cc)

none-or : {X : Type 0} (o p : Option X) → o ≡ None → p ≡ None → option_or o p ≡ None
none-or o p a b = rw a b

none-map : {X Y : Type 0} (f : X → Y) (o : Option X) → o ≡ None → option_map f o ≡ None
none-map f o e = rw e refl

first-none : {X Y : Type 0} (answer : X → Option Y) (xs : List X) → ((x : X) → IsIn x xs → answer x ≡ None) → first_some answer xs ≡ None
first-none answer [] h = refl
first-none answer (x ∷ xs) h = none-or (answer x) (first_some answer xs) (h x (inl refl)) (first-none answer xs (λ y c. h y (inr c)))

none-first : {X Y : Type 0} (answer : X → Option Y) (xs : List X) → first_some answer xs ≡ None → (x : X) → IsIn x xs → answer x ≡ None
none-first answer [] e x c = absurd c
none-first answer (y ∷ xs) e x c =
    let a = or-none (answer y) (first_some answer xs) e in
    elim c [ inl q ↦ ap answer q ∙ a.0 | inr b ↦ none-first answer xs a.1 x b ]

-- ---- items and places

items-in : (s : Items) (i : ℕ) → IsIn i (items s) → has s i ≡ true
unfolding items
items-in s i c = (filter-in (has s) (numbers_from 0 (bound s)) i c).1

in-below : (n q : ℕ) → q < n → IsIn q (numbers_from 0 n)
in-below n q l = in-numbers 0 n q (omega arith) (omega arith)

below-in : (n q : ℕ) → IsIn q (numbers_from 0 n) → q < n
below-in n q c = let r = numbers-in 0 n q c in let l = r.1 in omega arith

in-after : (clauses : List (List Items)) (q i j : ℕ) → i < j → j < length (clauses_of clauses q) → IsIn j (places_after clauses q i)
in-after clauses q i j a b = in-numbers (suc i) (length (clauses_of clauses q) - suc i) j (omega arith) (omega arith)

after-in : (clauses : List (List Items)) (q i j : ℕ) → i < length (clauses_of clauses q) → IsIn j (places_after clauses q i) → (i < j) × (j < length (clauses_of clauses q))
after-in clauses q i j l c =
    let r = numbers-in (suc i) (length (clauses_of clauses q) - suc i) j c in
    let a = r.0 in
    let b = r.1 in
    (omega arith, omega arith)

-- an item with a clause is one of those that are listed
clause-item : (clauses : List (List Items)) (q : ℕ) (c : Items) → is_among (clauses_of clauses q) c ≡ true → q < length clauses
clause-item [] q c h = absurd (true≢false (sym h))
clause-item (cs ∷ rest) zero c h = omega arith
clause-item (cs ∷ rest) (suc q) c h = let l = clause-item rest q c h in omega arith

-- ---- what each search tells

-- the clauses have no flaw of any kind
record IsFlawless (n : ℕ) (clauses : List (List Items)) : Type 0 where
  bare : find (λ q. length (clauses_of clauses q) == 0) (numbers_from 0 n) ≡ None
  lacking : first_some (lacking_in clauses) (numbers_from 0 n) ≡ None
  unclosed : first_some (unclosed_in clauses) (numbers_from 0 n) ≡ None
  comparable : first_some (comparable_in clauses) (numbers_from 0 n) ≡ None

flawless-from : (n : ℕ) (clauses : List (List Items)) → flaw n clauses ≡ None → IsFlawless n clauses
unfolding flaw
flawless-from n clauses e =
    let a = or-none (no_clause n clauses) _ e in
    let b = or-none (first_some (lacking_in clauses) (numbers_from 0 n)) _ a.1 in
    let c = or-none (first_some (unclosed_in clauses) (numbers_from 0 n)) (first_some (comparable_in clauses) (numbers_from 0 n)) b.1 in
    record { bare = none_from_map NoClause _ a.0; lacking = b.0; unclosed = c.0; comparable = c.1 }

flawless-to : (n : ℕ) (clauses : List (List Items)) → IsFlawless n clauses → flaw n clauses ≡ None
unfolding flaw
flawless-to n clauses h =
    none-or (no_clause n clauses) _ (none-map NoClause _ h.bare)
    (none-or (first_some (lacking_in clauses) (numbers_from 0 n)) _ h.lacking
    (none-or (first_some (unclosed_in clauses) (numbers_from 0 n)) _ h.unclosed h.comparable))

-- clauses of which none is comparable with a later one
pub none-comparable : (clauses : List (List Items)) (q : ℕ) → ((i j : ℕ) → i < j → j < length (clauses_of clauses q) → are_comparable (clause_at clauses q i) (clause_at clauses q j) ≡ false) → comparable_in clauses q ≡ None
none-comparable clauses q apart = first-none (comparable_at clauses q) (places_of clauses q) (λ i c.
    none-map (λ j. Comparable q (i + 1) (j + 1)) _ (find-no_element (λ j. are_comparable (clause_at clauses q i) (clause_at clauses q j)) (places_after clauses q i) (λ j d.
    let r = after-in clauses q i j (below-in (length (clauses_of clauses q)) i c) d in
    apart i j r.0 r.1)))

-- ---- clauses without a flaw, put in order

module _ (n : ℕ) (clauses : List (List Items)) (each : length clauses ≡ n) (free : IsFlawless n clauses) where
  -- the item of a clause
  item : (q : ℕ) (c : Items) → is_among (clauses_of clauses q) c ≡ true → IsIn q (numbers_from 0 n)
  item q c h = in-below n q (subst (λ m. q < m) each (clause-item clauses q c h))

  flawless-clause : (q : ℕ) → q < n → clauses_of clauses q ≢ []
  flawless-clause q l e =
      true≢false (sym (ap (λ cs. length cs == 0) e) ∙ find-none_is (λ q. length (clauses_of clauses q) == 0) (numbers_from 0 n) free.bare q (in-below n q l))

  flawless-reflexive : (q : ℕ) (c : Items) → is_among (clauses_of clauses q) c ≡ true → has c q ≡ true
  flawless-reflexive q c h =
      let p = place-of (clauses_of clauses q) c h in
      let none = none_from_map (λ j. Reflexive q (j + 1)) _ (none-first (lacking_in clauses) (numbers_from 0 n) free.lacking q (item q c h)) in
      ap (λ s. has s q) (sym p.2)
      ∙ not-false (has (clause_at clauses q p.0) q) (find-none_is (λ j. not (has (clause_at clauses q j) q)) (places_of clauses q) none p.0 (in-below (length (clauses_of clauses q)) p.0 p.1))

  flawless-closed : (q : ℕ) (c : Items) (r : ℕ) → is_among (clauses_of clauses q) c ≡ true → has c r ≡ true → has_clause_within clauses r c ≡ true
  flawless-closed q c r h a =
      let p = place-of (clauses_of clauses q) c h in
      let at = none-first (unclosed_in clauses) (numbers_from 0 n) free.unclosed q (item q c h) in
      let none = none-first (unclosed_at clauses q) (places_of clauses q) at p.0 (in-below (length (clauses_of clauses q)) p.0 p.1) in
      let found = find-none_is (λ r. not (has_clause_within clauses r (clause_at clauses q p.0))) (items (clause_at clauses q p.0)) (none_from_map (λ r. NotClosed q (p.0 + 1) r) _ none) in
      ap (has_clause_within clauses r) (sym p.2)
      ∙ not-false (has_clause_within clauses r (clause_at clauses q p.0)) (found r (in-items (clause_at clauses q p.0) r (ap (λ s. has s r) p.2 ∙ a)))

  flawless-apart : (q i j : ℕ) → IsIn q (numbers_from 0 n) → i < j → j < length (clauses_of clauses q) → are_comparable (clause_at clauses q i) (clause_at clauses q j) ≡ false
  flawless-apart q i j c a b =
      let at = none-first (comparable_in clauses) (numbers_from 0 n) free.comparable q c in
      let none = none-first (comparable_at clauses q) (places_of clauses q) at i (in-below (length (clauses_of clauses q)) i (omega arith)) in
      find-none_is (λ j. are_comparable (clause_at clauses q i) (clause_at clauses q j)) (places_after clauses q i) (none_from_map (λ j. Comparable q (i + 1) (j + 1)) _ none) j (in-after clauses q i j a b)

  flawless-incomparable : (q : ℕ) (c d : Items) → is_among (clauses_of clauses q) c ≡ true → is_among (clauses_of clauses q) d ≡ true → is_within c d ≡ true → is_same c d ≡ true
  flawless-incomparable q c d hc hd w =
      let i = place-of (clauses_of clauses q) c hc in
      let j = place-of (clauses_of clauses q) d hd in
      let first = clause_at clauses q i.0 in
      let second = clause_at clauses q j.0 in
      let within : is_within first second ≡ true = ap₂ is_within i.2 j.2 ∙ w in
      elim (cases_order i.0 j.0) [
        | inl e ↦ (Decides-is_same c d).1 (sym i.2 ∙ ap (clause_at clauses q) e ∙ j.2)
        | inr s ↦ elim s [
          | inl a ↦ absurd (true≢false (sym (or_left (is_within first second) (is_within second first) within) ∙ flawless-apart q i.0 j.0 (item q c hc) a j.1))
          | inr a ↦ absurd (true≢false (sym (or_right (is_within second first) (is_within first second) within) ∙ flawless-apart q j.0 i.0 (item q c hc) a i.1))
        ]
      ]

pub flawless-ordered : (n : ℕ) (clauses ordered : List (List Items)) → length clauses ≡ n → ((q : ℕ) → AreOn n (clauses_of clauses q)) → IsPutInOrder clauses ordered → flaw n clauses ≡ None → IsSurmise n ordered
flawless-ordered n clauses ordered each small put none = record {
  each_item = put.as_many ∙ each;
  has_clause = λ q l e.
      let r = some_set (clauses_of clauses q) (flawless-clause n clauses each free q l) in
      true≢false (sym r.1 ∙ sym (put.same q r.0) ∙ ap (λ cs. is_among cs r.0) e);
  in_order = put.in_order;
  small = λ q c h. small q c (sym (put.same q c) ∙ h);
  reflexive = λ q c h. flawless-reflexive n clauses each free q c (sym (put.same q c) ∙ h);
  closed = λ q c r h x.
      let y = clause-within clauses r c (flawless-closed n clauses each free q c r (sym (put.same q c) ∙ h) x) in
      within-clause ordered r c y.0 (put.same r y.0 ∙ y.1) y.2;
  incomparable = λ q c d hc hd w. flawless-incomparable n clauses each free q c d (sym (put.same q c) ∙ hc) (sym (put.same q d) ∙ hd) w;
}
  where
    free : IsFlawless n clauses
    free = flawless-from n clauses none

-- the sets that meet the clauses are the same
pub meets-ordered : (clauses ordered : List (List Items)) → IsPutInOrder clauses ordered → (k : Items) → meets (Clauses ordered) k ≡ meets (Clauses clauses) k
meets-ordered clauses ordered put k = same_truth (meets (Clauses ordered) k) (meets (Clauses clauses) k)
    (λ h. meets-from clauses k (λ q a. let r = meets-clause ordered k q h a in within-clause clauses q k r.0 (sym (put.same q r.0) ∙ r.1) r.2))
    (λ h. meets-from ordered k (λ q a. let r = meets-clause clauses k q h a in within-clause ordered q k r.0 (put.same q r.0 ∙ r.1) r.2))

-- ---- a surmise function has no flaw

module _ (n : ℕ) (clauses : List (List Items)) (surmise : IsSurmise n clauses) where
  clause-here : (q j : ℕ) → IsIn j (places_of clauses q) → is_among (clauses_of clauses q) (clause_at clauses q j) ≡ true
  clause-here q j c = among-at (clauses_of clauses q) j (below-in (length (clauses_of clauses q)) j c)

  some_clauses : (cs : List Items) → cs ≢ [] → (length cs == 0) ≡ false
  some_clauses [] h = absurd (h refl)
  some_clauses (c ∷ cs) h = ne_eqb (suc (length cs)) 0 (λ e. absurd (omega arith))

  surmise-apart : (q i j : ℕ) → i < j → j < length (clauses_of clauses q) → are_comparable (clause_at clauses q i) (clause_at clauses q j) ≡ false
  surmise-apart q i j a b = false_from_ne_true (are_comparable c d) (λ h. elim (or_cases (is_within c d) (is_within d c) h) [
    | inl w ↦ differ (surmise.incomparable q c d c_in d_in w)
    | inr w ↦ differ ((Decides-is_same c d).1 (sym ((Decides-is_same d c).0 (surmise.incomparable q d c d_in c_in w))))
  ])
    where
      c : Items
      c = clause_at clauses q i

      d : Items
      d = clause_at clauses q j

      c_in : is_among (clauses_of clauses q) c ≡ true
      c_in = among-at (clauses_of clauses q) i (omega arith)

      d_in : is_among (clauses_of clauses q) d ≡ true
      d_in = among-at (clauses_of clauses q) j (omega arith)

      differ : ¬ (is_same c d ≡ true)
      differ e = true≢false (sym (in_order-at (clauses_of clauses q) i j (surmise.in_order q) a b) ∙ ap (λ s. comes_before s d) ((Decides-is_same c d).0 e) ∙ comes_before-irreflexive d)

  none-lacking : (q : ℕ) → lacking_in clauses q ≡ None
  none-lacking q = none-map (λ j. Reflexive q (j + 1)) _ (find-no_element (λ j. not (has (clause_at clauses q j) q)) (places_of clauses q) (λ j c.
      not_from_true (has (clause_at clauses q j) q) (surmise.reflexive q (clause_at clauses q j) (clause-here q j c))))

  none-unclosed : (q : ℕ) → unclosed_in clauses q ≡ None
  none-unclosed q = first-none (unclosed_at clauses q) (places_of clauses q) (λ j c.
      let s = clause_at clauses q j in
      none-map (λ r. NotClosed q (j + 1) r) _ (find-no_element (λ r. not (has_clause_within clauses r s)) (items s) (λ r d.
      not_from_true (has_clause_within clauses r s) (surmise.closed q s r (clause-here q j c) (items-in s r d)))))

  pub surmise-flawless : flaw n clauses ≡ None
  surmise-flawless = flawless-to n clauses (record {
    bare = find-no_element (λ q. length (clauses_of clauses q) == 0) (numbers_from 0 n) (λ q c. some_clauses (clauses_of clauses q) (surmise.has_clause q (below-in n q c)));
    lacking = first-none (lacking_in clauses) (numbers_from 0 n) (λ q _. none-lacking q);
    unclosed = first-none (unclosed_in clauses) (numbers_from 0 n) (λ q _. none-unclosed q);
    comparable = first-none (comparable_in clauses) (numbers_from 0 n) (λ q _. none-comparable clauses q (surmise-apart q));
  })
