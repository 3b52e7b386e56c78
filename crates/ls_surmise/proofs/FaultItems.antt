-- The items that a flaw names are items.
use Rattle.ls_surmise.proofs.Vocabulary.{◌+◌, ◌<◌, ◌==◌, ◌∙◌, ◌∷◌, ◌≡◌, All, Bool, Comparable, AreOn, Items, List, NoClause, None, NotClosed, Option, Reflexive, Some, SurmiseFault, ℕ, [], all_clauses, among-all, among-at, are_comparable, arith, bound, clause_at, clauses_of, comparable_at, comparable_in, cond, false, find, first_some, flaw, has, has-full, has_clause_within, inl, inr, items, lacking_in, length, ltb-true, no_clause, not, numbers_from, option_map, option_or, places_after, places_of, refl, subst, suc, surmise_items, sym, true, unclosed_at, unclosed_in, zero}
use Rattle.ls_lists.specs.Lists.{IsIn}
use Rattle.ls_lists.proofs.Elements.{filter-in}
use Rattle.ls_laws.proofs.Listed.{numbers-in}

abbrev AreItems : ℕ → SurmiseFault → Type 0
AreItems n fault = All (λ q. q < n) (surmise_items fault)

All-one : (n q : ℕ) → q < n → All (λ q. q < n) (q ∷ [])
All-one n q h zero d l = h
All-one n q h (suc k) d l = absurd (omega arith)

All-two : (n q r : ℕ) → q < n → r < n → All (λ q. q < n) (q ∷ r ∷ [])
All-two n q r h i zero d l = h
All-two n q r h i (suc zero) d l = i
All-two n q r h i (suc (suc k)) d l = absurd (omega arith)

-- ---- what a search found

first-found : {X Y : Type 0} (answer : X → Option Y) (xs : List X) (y : Y) → first_some answer xs ≡ Some y → (x : X) × IsIn x xs × (answer x ≡ Some y)
first-found answer [] y e = absurd (let z : None ≡ Some y = e in cc)
first-found {X = X} {Y = Y} answer (x ∷ xs) y e = step (answer x) refl e (λ l. first-found answer xs y l)
  where
    step : (o : Option Y) → answer x ≡ o → option_or o (first_some answer xs) ≡ Some y → (first_some answer xs ≡ Some y → (z : X) × IsIn z xs × (answer z ≡ Some y)) → (z : X) × IsIn z (x ∷ xs) × (answer z ≡ Some y)
    step None a e later = let r = later e in (r.0, inr r.1, r.2)
    step (Some z) a e later = (x, inl refl, a ∙ e)

map-found : {X Y : Type 0} (f : X → Y) (o : Option X) (y : Y) → option_map f o ≡ Some y → (x : X) × (o ≡ Some x) × (f x ≡ y)
map-found f None y e = absurd (let z : None ≡ Some y = e in cc)
map-found f (Some x) y e = (x, refl, cc)

find-in : {X : Type 0} (p : X → Bool) (xs : List X) (x : X) → find p xs ≡ Some x → IsIn x xs
find-in p [] x e = absurd (let z : None ≡ Some x = e in cc)
find-in p (y ∷ ys) x e = step (p y) e (find-in p ys x)
  where
    step : (b : Bool) → cond b (Some y) (find p ys) ≡ Some x → (find p ys ≡ Some x → IsIn x ys) → IsIn x (y ∷ ys)
    step true e later = inl (let z : Some x ≡ Some y = sym e in cc)
    step false e later = inr (later e)

below : (n q : ℕ) → IsIn q (numbers_from 0 n) → q < n
below n q c = let r = numbers-in 0 n q c in let l = r.1 in omega arith

-- ---- the four searches

module _ (n : ℕ) (clauses : List (List Items)) (small : AreOn n (all_clauses clauses)) (fault : SurmiseFault) where
  bare : no_clause n clauses ≡ Some fault → AreItems n fault
  bare e =
      let m = map-found NoClause (find (λ q. length (clauses_of clauses q) == 0) (numbers_from 0 n)) fault e in
      subst (AreItems n) m.2 (All-one n m.0 (below n m.0 (find-in (λ q. length (clauses_of clauses q) == 0) (numbers_from 0 n) m.0 m.1)))

  lacking : first_some (lacking_in clauses) (numbers_from 0 n) ≡ Some fault → AreItems n fault
  lacking e =
      let f = first-found (lacking_in clauses) (numbers_from 0 n) fault e in
      let m = map-found (λ j. Reflexive f.0 (j + 1)) (find (λ j. not (has (clause_at clauses f.0 j) f.0)) (places_of clauses f.0)) fault f.2 in
      subst (AreItems n) m.2 (All-one n f.0 (below n f.0 f.1))

  item-below : (q j r : ℕ) → IsIn j (places_of clauses q) → IsIn r (items (clause_at clauses q j)) → r < n
  unfolding items
  item-below q j r c d =
      let own = clauses_of clauses q in
      let k = clause_at clauses q j in
      ltb-true r n (sym (has-full n r) ∙ small k (among-all clauses q k (among-at own j (below (length own) j c))) r (filter-in (has k) (numbers_from 0 (bound k)) r d).1)

  unclosed : first_some (unclosed_in clauses) (numbers_from 0 n) ≡ Some fault → AreItems n fault
  unclosed e =
      let f = first-found (unclosed_in clauses) (numbers_from 0 n) fault e in
      let g = first-found (unclosed_at clauses f.0) (places_of clauses f.0) fault f.2 in
      let k = clause_at clauses f.0 g.0 in
      let m = map-found (λ r. NotClosed f.0 (g.0 + 1) r) (find (λ r. not (has_clause_within clauses r k)) (items k)) fault g.2 in
      subst (AreItems n) m.2 (All-two n f.0 m.0 (below n f.0 f.1) (item-below f.0 g.0 m.0 g.1 (find-in (λ r. not (has_clause_within clauses r k)) (items k) m.0 m.1)))

  comparable : first_some (comparable_in clauses) (numbers_from 0 n) ≡ Some fault → AreItems n fault
  comparable e =
      let f = first-found (comparable_in clauses) (numbers_from 0 n) fault e in
      let g = first-found (comparable_at clauses f.0) (places_of clauses f.0) fault f.2 in
      let k = clause_at clauses f.0 g.0 in
      let m = map-found (λ j. Comparable f.0 (g.0 + 1) (j + 1)) (find (λ j. are_comparable k (clause_at clauses f.0 j)) (places_after clauses f.0 g.0)) fault g.2 in
      subst (AreItems n) m.2 (All-one n f.0 (below n f.0 f.1))

  either : (o p : Option SurmiseFault) → (o ≡ Some fault → AreItems n fault) → (p ≡ Some fault → AreItems n fault) → option_or o p ≡ Some fault → AreItems n fault
  either None p a b e = b e
  either (Some f) p a b e = a e

  pub flaw-items : flaw n clauses ≡ Some fault → AreItems n fault
  unfolding flaw
  flaw-items e = either _ _ bare (either _ _ lacking (either _ _ unclosed comparable)) e
