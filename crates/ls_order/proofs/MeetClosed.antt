-- Families that are closed under intersection.
use Rattle.std.proofs.Common.{ℕ, ◌<◌, ◌≡◌, inl, inr, true}
use Rattle.std.proofs.Common.{List, [], ◌∷◌, length, refl, sym, ap}
use Rattle.std.proofs.Common.{◌∙◌, subst, arith, true≢false, eq-eqb, eqb-true, ltb-true, lt-ltb}
use Rattle.std.specs.List.{list_all}
use Rattle.std.proofs.lemmas.Bool.{and_parts, and_from}
use Rattle.ls_set.specs.ItemSet.{Items, has, full, meet, is_among, numbers_from}
use Rattle.ls_set.specs.ItemSet.{comes_before, IsInOrder}
use Rattle.ls_set.proofs.Sets.{members, has-full, has-meet, both_ways}
use Rattle.ls_set.proofs.Members.{among-here, among-there, among-cases}
use Rattle.ls_set.proofs.Order.{comes_before-irreflexive}
use Rattle.ls_theory.specs.Bases.{atoms_at}
use Rattle.ls_laws.specs.Families.{IsFamily}
use Rattle.ls_laws.proofs.Lists.{every-among, every-from, IsInOrder-filter}
use Rattle.ls_laws.proofs.Interiors.{interior-whole, interior-among}
use Rattle.ls_laws.proofs.Atoms.{atom_within}
use Rattle.ls_clauses.proofs.Clauses.{atom-among, among-atoms}
use Rattle.ls_order.specs.Orders.{is_meet_closed}
use Rattle.ls_order.specs.Orders.{has_one_atom}
use Rattle.ls_origins.proofs.Numbered.{every-number, number-every}

meet-from : (f : List Items) → is_meet_closed f ≡ true → (k l : Items) → is_among f k ≡ true
    → is_among f l ≡ true → is_among f (meet k l) ≡ true
meet-from f h k l c d =
    every-among (λ l. is_among f (meet k l)) f l
    (every-among (λ k. list_all (λ l. is_among f (meet k l)) f) f k h c) d

meet-to : (f : List Items)
    → ((k l : Items) → is_among f k ≡ true → is_among f l ≡ true → is_among f (meet k l) ≡ true)
    → is_meet_closed f ≡ true
meet-to f h =
    every-from (λ k. list_all (λ l. is_among f (meet k l)) f) f
    (λ k c. every-from (λ l. is_among f (meet k l)) f (λ l d. h k l c d))

-- a list in order of which all sets are one, and that has one
one-set : (cs : List Items) (c : Items) → IsInOrder cs → is_among cs c ≡ true
    → ((d : Items) → is_among cs d ≡ true → d ≡ c) → length cs ≡ 1
one-set [] c order a same = absurd (true≢false (sym a))
one-set (d ∷ []) c order a same = refl
one-set (d ∷ e ∷ cs) c order a same =
    let p : d ≡ e =
    same d (among-here d d (e ∷ cs) refl) ∙ sym
    (same e (among-there e d (e ∷ cs) (among-here e e cs refl))) in
    absurd
    (true≢false
    (sym (subst (λ x. comes_before x e ≡ true) p order.0.0) ∙ comes_before-irreflexive e))

-- a list of one set
pub same-one : (cs : List Items) (c d : Items)
    → length cs ≡ 1 → is_among cs c ≡ true → is_among cs d
    ≡ true → c ≡ d
same-one [] c d one a b = absurd (true≢false (sym a))
same-one (e ∷ []) c d one a b = elim (among-cases c e [] a) [
  | inl p ↦ elim (among-cases d e [] b) [ inl q ↦ p ∙ sym q | inr q ↦ absurd (true≢false (sym q)) ]
  | inr p ↦ absurd (true≢false (sym p))
]
same-one (e ∷ x ∷ cs) c d one a b = absurd (omega arith)

atoms-in_order : (f : List Items) (q : ℕ) → IsInOrder f → IsInOrder (atoms_at f q)
atoms-in_order f q order = IsInOrder-filter _ f order

-- a space is closed under intersection exactly where there is one atom at each item
pub meet-closed-atoms : (n : ℕ) (f : List Items) → IsFamily n f → is_among f (full n) ≡ true
    → is_meet_closed f ≡ list_all (has_one_atom f) (numbers_from 0 n)
meet-closed-atoms n f family whole =
    both_ways (is_meet_closed f) (list_all (has_one_atom f) (numbers_from 0 n))
    (λ h. number-every (has_one_atom f) 0 n (λ q l.
    let below : q < n = omega arith in
    let some = atom_within f (full n) q whole (has-full n q ∙ lt-ltb q n below) in
    let a = some.1 in
    eq-eqb (length (atoms_at f q)) 1
    (one-set (atoms_at f q) some.0 (atoms-in_order f q family.in_order)
    (among-atoms f q some.0 a) (λ d c.
    let b = atom-among f q d c in
    let both = meet-from f h d some.0 b.member a.member in
    let has_q : has (meet d some.0) q ≡ true =
    has-meet d some.0 q ∙ and_from (has d q) (has some.0 q) b.has_q a.has_q in
    sym (b.least (meet d some.0) both (λ i m. grind (arith, members)) has_q) ∙ a.least
    (meet d some.0) both (λ i m. grind (arith, members)) has_q))))
    (λ h. meet-to f (λ k l c d.
    subst (λ s. is_among f s ≡ true)
    (interior-whole f (meet k l) (λ q m.
    let b = and_parts (has k q) (has l q) (sym (has-meet k l q) ∙ m) in
    let x = atom_within f k q c b.0 in
    let y = atom_within f l q d b.1 in
    let q_below : q < n = ltb-true q n (sym (has-full n q) ∙ family.small k c q b.0) in
    let one : length (atoms_at f q) ≡ 1 =
    eqb-true (length (atoms_at f q)) 1
    (every-number (has_one_atom f) 0 n q (omega arith) (omega arith) h) in
    let e =
    same-one (atoms_at f q) x.0 y.0 one (among-atoms f q x.0 x.1) (among-atoms f q y.0 y.1) in
    let a = x.1 in (
      x.0,
      a.member,
      (λ i o. has-meet k l i ∙ and_from (has k i) (has l i) (x.2 i o)
          (y.2 i (ap (λ s. has s i) (sym e) ∙ o))),
      a.has_q,
    )))
    (interior-among f f family.holds_empty family.holds_unions (λ k c. c) (meet k l))))
