-- The search for sequences finds those that there are, and atoms at two items are what it fails on.
use Rattle.ls_laws.proofs.Vocabulary.{◌&&◌, ◌+◌, ◌<◌, ◌↔◌, ◌∙◌, ◌∷◌, ◌≡◌, ◌≢◌, ◌≤◌, Bool, Decides-is_same, AreOn, IsUnionClosed, IsWellGraded, Items, LeadsTo, List, ℕ, [], among-filter, and_from, and_parts, ap, arith, base, bound, bound-has, cases_Bool, cases_eq, cases_lt, differing, empty, eq-eqb, eqb, eqb-true, false_from_ne_true, filter, filter-both, full, has, inl, inr, is_among, is_atom_at, is_double, is_joined, is_learning_space, is_same, is_space, is_well_graded, is_within, items, len, length, list_all, list_any, lt-ltb, ltb, ltb-true, neighbours, not, not-true, not_from_false, numbers_from, refl, same_truth, subst, suc, sym, true, true≢false, zero}
use Rattle.ls_laws.proofs.Lists.{every-among, every-from, some-among, some-from}
use Rattle.ls_laws.proofs.Interiors.{IsUnionFamily, family-from}
use Rattle.ls_laws.proofs.Climbs.{graded_by_atoms}

leads_from : (f : List Items) (d : ℕ) (k l : Items) → is_joined f d k l ≡ true → (ss : List Items) × LeadsTo f k ss l × (length ss ≡ d)
unfolding is_joined
leads_from f zero k l h = ([], (Decides-is_same k l).0 h, refl)
leads_from f (suc d) k l h =
    let r = some-from (λ s. is_joined f d s l) (neighbours f k) h in
    let x = and_parts (is_among f r.0) (eqb (len (differing k r.0)) 1) (sym (among-filter (λ s. eqb (len (differing k s)) 1) f r.0) ∙ r.1) in
    let rest = leads_from f d r.0 l r.2 in
    (r.0 ∷ rest.0, (x.0, eqb-true (len (differing k r.0)) 1 x.1, rest.1), ap suc rest.2)

leads_to : (f : List Items) (k : Items) (ss : List Items) (l : Items) → LeadsTo f k ss l → is_joined f (length ss) k l ≡ true
unfolding is_joined
leads_to f k [] l e = (Decides-is_same k l).1 e
leads_to f k (s ∷ ss) l h =
    some-among (λ s. is_joined f (length ss) s l) (neighbours f k) s
    (among-filter (λ s. eqb (len (differing k s)) 1) f s ∙ and_from (is_among f s) (eqb (len (differing k s)) 1) h.0 (eq-eqb (len (differing k s)) 1 h.1))
    (leads_to f s ss l h.2)

pub is_well_graded-decides : (f : List Items) → (is_well_graded f ≡ true) ↔ IsWellGraded f
unfolding is_well_graded
is_well_graded-decides f = (
  λ h k l ck cl.
      let r = leads_from f (len (differing k l)) k l (every-among (λ l. is_joined f (len (differing k l)) k l) f l (every-among (λ k. list_all (λ l. is_joined f (len (differing k l)) k l) f) f k h ck) cl) in
      record { steps = r.0; leads = r.1; shortest = r.2 },
  λ graded. every-from (λ k. list_all (λ l. is_joined f (len (differing k l)) k l) f) f (λ k ck. every-from (λ l. is_joined f (len (differing k l)) k l) f (λ l cl.
      let w = graded k l ck cl in
      subst (λ d. is_joined f d k l ≡ true) w.shortest (leads_to f k w.steps l w.leads))),
)

-- ---- two numbers of a range that pass

one_passes : (p : ℕ → Bool) (i m : ℕ) → 0 < length (filter p (numbers_from i m)) → (r : ℕ) × (i ≤ r) × (p r ≡ true)
one_passes p i zero l = absurd (omega arith)
one_passes p i (suc m) l = elim (cases_Bool (p i)) [
  | inl a ↦ (i, omega arith, a)
  | inr a ↦ let x = one_passes p (suc i) m (rw a at l) in let y = x.1 in (x.0, omega arith, x.2)
]

two_pass : (p : ℕ → Bool) (i m : ℕ) → 1 < length (filter p (numbers_from i m)) → (q : ℕ) × (r : ℕ) × (q < r) × (p q ≡ true) × (p r ≡ true)
two_pass p i zero l = absurd (omega arith)
two_pass p i (suc m) l = elim (cases_Bool (p i)) [
  | inl a ↦
      let l' : 1 < suc (length (filter p (numbers_from (suc i) m))) = rw a at l in
      let x = one_passes p (suc i) m (omega arith) in let y = x.1 in (i, x.0, omega arith, a, x.2)
  | inr a ↦ two_pass p (suc i) m (rw a at l)
]

passes_one : (p : ℕ → Bool) (i m r : ℕ) → i ≤ r → r < i + m → p r ≡ true → 0 < length (filter p (numbers_from i m))
passes_one p i zero r a b h = absurd (omega arith)
passes_one p i (suc m) r a b h = elim (cases_Bool (p i)) [
  | inl c ↦ rw c (omega arith)
  | inr c ↦ elim (cases_eq r i) [
    | inl e ↦ absurd (true≢false (sym h ∙ ap p e ∙ c))
    | inr n ↦ rw c (passes_one p (suc i) m r (omega arith) (omega arith) h)
  ]
]

passes_two : (p : ℕ → Bool) (i m q r : ℕ) → i ≤ q → q < r → r < i + m → p q ≡ true → p r ≡ true → 1 < length (filter p (numbers_from i m))
passes_two p i zero q r a b c g h = absurd (omega arith)
passes_two p i (suc m) q r a b c g h = elim (cases_Bool (p i)) [
  | inl d ↦ let x = passes_one p (suc i) m r (omega arith) (omega arith) h in rw d (omega arith)
  | inr d ↦ elim (cases_eq q i) [
    | inl e ↦ absurd (true≢false (sym g ∙ ap p e ∙ d))
    | inr n ↦ rw d (passes_two p (suc i) m q r (omega arith) b (omega arith) g h)
  ]
]

-- ---- atoms at two items

atom-has : (f : List Items) (q : ℕ) (k : Items) → is_atom_at f q k ≡ true → has k q ≡ true
atom-has f q k a = (and_parts (has k q) (not (list_any (λ l. has l q && is_within l k && not (is_same l k)) f)) a).0

twice_at : (f : List Items) (k : Items) → is_double f k ≡ true → (q : ℕ) × (r : ℕ) × (q ≢ r) × (is_atom_at f q k ≡ true) × (is_atom_at f r k ≡ true)
unfolding items
twice_at f k h =
    let p = λ (q : ℕ). has k q && is_atom_at f q k in
    let e = filter-both (has k) (λ q. is_atom_at f q k) (numbers_from 0 (bound k)) in
    let x = two_pass p 0 (bound k) (ltb-true 1 (length (filter p (numbers_from 0 (bound k)))) (sym (ap (λ l. ltb 1 (length l)) e) ∙ h)) in
    let y = x.2 in
    (x.0, x.1, omega arith, (and_parts (has k x.0) (is_atom_at f x.0 k) x.3).1, (and_parts (has k x.1) (is_atom_at f x.1 k) x.4).1)

at_twice : (f : List Items) (k : Items) (q r : ℕ) → q < r → is_atom_at f q k ≡ true → is_atom_at f r k ≡ true → is_double f k ≡ true
unfolding items
at_twice f k q r l a b =
    let p = λ (q : ℕ). has k q && is_atom_at f q k in
    let hq = atom-has f q k a in
    let hr = atom-has f r k b in
    let z : r < bound k = bound-has k r hr in
    ap (λ l. ltb 1 (length l)) (filter-both (has k) (λ q. is_atom_at f q k) (numbers_from 0 (bound k)))
    ∙ lt-ltb 1 (length (filter p (numbers_from 0 (bound k)))) (passes_two p 0 (bound k) q r (omega arith) l (omega arith) (and_from (has k q) (is_atom_at f q k) hq a) (and_from (has k r) (is_atom_at f r k) hr b))

-- a family is well graded where no base set is an atom at two items
pub is_well_graded-atoms : (f : List Items) → is_among f empty ≡ true → IsUnionClosed f → is_well_graded f ≡ not (list_any (is_double f) (base f))
is_well_graded-atoms f e u =
    let test = graded_by_atoms f e u in
    let decides = is_well_graded-decides f in
    same_truth (is_well_graded f) (not (list_any (is_double f) (base f)))
    (λ h. not_from_false (list_any (is_double f) (base f)) (false_from_ne_true (list_any (is_double f) (base f)) (λ a.
    let x = some-from (is_double f) (base f) a in
    let y = twice_at f x.0 x.2 in
    y.2 (test.0 (decides.0 h) x.0 y.0 y.1 x.1 y.3 y.4))))
    (λ h. decides.1 (test.1 (λ k q r c a b.
    let two = λ (t : is_double f k ≡ true). true≢false (sym (some-among (is_double f) (base f) k c t) ∙ not-true (list_any (is_double f) (base f)) h) in
    elim (cases_lt q r) [
      | inl l ↦ absurd (two (at_twice f k q r l a b))
      | inr l ↦ elim (cases_lt r q) [
        | inl m ↦ absurd (two (at_twice f k r q m b a))
        | inr m ↦ omega arith
      ]
    ])))

-- a learning space of items below n
pub learning-parts : (n : ℕ) (f : List Items) → AreOn n f → is_learning_space (full n) f ≡ true → IsUnionFamily n f × IsWellGraded f
learning-parts n f small h =
    let a = and_parts (is_space (full n) f) (is_well_graded f) h in
    (family-from n f small a.0, (is_well_graded-decides f).0 a.1)
