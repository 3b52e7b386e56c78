-- The atoms of what a Yes leaves: those that do not break the query stay, and the others are unions of one that does with a set that has an item of A.
use Rattle.std.proofs.Common.{ℕ, ◌≡◌, ◌⊎◌, inl, inr, true, false, cond, not, ◌||◌, List, [], ◌∷◌, ◌++◌, filter, refl, sym, ap, ◌∙◌, subst, true≢false}
use Rattle.std.proofs.lemmas.Bool.{cases_Bool}
use Rattle.ls_lists.proofs.Bools.{same_truth}
use Rattle.ls_set.specs.{IsInOrder, IsWithin, Items, has, is_among, union}
use Rattle.ls_set.specs.declared.query.Query.{Query}
use Rattle.ls_set.proofs.Sets.{union-left, union-right, union-within}
use Rattle.ls_theory.specs.{atoms_at, base, breaks, is_atom_at, some_breaks}
use Rattle.ls_laws.specs.Spans.{IsPart, left_by, touches}
use Rattle.ls_laws.specs.Families.{IsUnionClosed}
use Rattle.ls_laws.proofs.Lists.{same_members, IsInOrder-filter}
use Rattle.ls_laws.proofs.Atoms.{IsAtom, IsAtom-from, is_atom_at-from, among-base, base-atom, base-member, atom_within}
use Rattle.ls_laws.proofs.Breaks.{Breaks-from, breaks-from, breaker, some_breaks-here, some_breaks-part, among-left_from, among-left_parts}
use Rattle.ls_laws.proofs.Remains.{among-joins, from-joins, touches-at, common, spared, unbroken}
use Rattle.ls_laws.proofs.Spans.{base-in_order}
use Rattle.ls_laws.specs.LeastSets.{least_sets, IsBelow, having, near, joined, has_none_within, gained}
use Rattle.ls_laws.proofs.LeastSets.{among-parts, among-from, among-either, among-left, among-right, least-below, below-through, below-more, IsLeast-from, same-least, atoms-least, least-either, beside-least}

-- ---- which sets are atoms

pub atom-of : (f : List Items) (i : ℕ) (k : Items) → is_among (atoms_at f i) k ≡ true → IsAtom f i k
atom-of f i k c = let p = among-parts (is_atom_at f i) f k c in IsAtom-from f i k p.0 p.1

pub atom-among : (f : List Items) (i : ℕ) (k : Items) → IsAtom f i k → is_among (atoms_at f i) k ≡ true
atom-among f i k a = among-from (is_atom_at f i) f k a.member (is_atom_at-from f i k a)

-- ---- which sets have an item of A

-- of a set with an item of A, a set that it lies within has one
pub touches_more : (g s t : Items) → IsWithin g s → touches g t ≡ true → touches s t ≡ true
touches_more g s t w h = let x = common g t h in touches-at s t x.0 (w x.0 x.1) x.2

-- the base sets with an item of A lie within the members with one
pub near-below : (f : List Items) (r : Query) → IsBelow (near (base f) r) (near f r)
near-below f r = record {
  part = λ k c. let p = among-parts (λ k. touches k r.a) (base f) k c in among-from (λ k. touches k r.a) f k (base-member f k p.0) p.1;
  within = λ k c.
      let p = among-parts (λ k. touches k r.a) f k c in
      let x = common k r.a p.1 in
      let y = atom_within f k x.0 p.0 x.1 in
      (y.0, among-from (λ k. touches k r.a) (base f) y.0 (among-base f x.0 y.0 y.1) (touches-at y.0 r.a x.0 (let a = y.1 in a.has_q) x.2), y.2);
}

pub near_least-below : (f : List Items) (r : Query) → IsBelow (least_sets (near (base f) r)) (near f r)
near_least-below f r = below-through (least_sets (near (base f) r)) (near (base f) r) (near f r) (least-below (near (base f) r)) (near-below f r)

-- ---- the atoms at an item

pub atom-stays : (f : List Items) (r : Query) (i : ℕ) (k : Items) → IsAtom f i k → breaks k r ≡ false → IsAtom (left_by r f) i k
atom-stays f r i k a b = record { member = among-left_from f r k a.member b; has_q = a.has_q; least = λ l c w h. a.least l (among-left_parts f r l c).0 w h }

pub stays-among : (f : List Items) (r : Query) → IsPart (left_by r (base f)) (base (left_by r f))
stays-among f r k c =
    let p = among-left_parts (base f) r k c in
    let x = base-atom f k p.0 in
    among-base (left_by r f) x.0 k (atom-stays f r x.0 k x.1 p.1)

-- the atoms at the item that do not break the query, and those unions, lie within what is left with the item
pub candidates-below : (f : List Items) (r : Query) (gs : List Items) (i : ℕ) → IsUnionClosed f → IsBelow gs (near f r) → IsBelow (left_by r (atoms_at f i) ++ joined f r gs i) (having i (left_by r f))
candidates-below f r gs i closed low = record {
  part = λ k c. elim (among-either (left_by r (atoms_at f i)) (joined f r gs i) k c) [
    | inl h ↦
        let p = among-left_parts (atoms_at f i) r k h in
        let a = atom-of f i k p.0 in
        among-from (λ k. has k i) (left_by r f) k (among-left_from f r k a.member p.1) a.has_q
    | inr h ↦
        let j = from-joins k (filter (λ k. breaks k r) (atoms_at f i)) gs h in
        let p = among-parts (λ k. breaks k r) (atoms_at f i) j.left j.left_in in
        let a = atom-of f i j.left p.0 in
        let g = among-parts (λ k. touches k r.a) f j.right (low.part j.right j.right_in) in
        subst (λ s. is_among (having i (left_by r f)) s ≡ true) (sym j.is) (among-from (λ k. has k i) (left_by r f) (union j.left j.right)
        (among-left_from f r (union j.left j.right) (closed j.left j.right a.member g.0) (unbroken (union j.left j.right) r (touches_more j.right (union j.left j.right) r.a (union-right j.left j.right) g.1)))
        (union-left j.left j.right i a.has_q))
  ];
  within = λ k c.
      let h = among-parts (λ k. has k i) (left_by r f) k c in
      let p = among-left_parts f r k h.0 in
      let x = atom_within f k i p.0 h.1 in
      let b = x.0 in
      let a = x.1 in
      elim (cases_Bool (breaks b r)) [
        | inl bad ↦
            let lost = Breaks-from b r bad in
            let y = low.within k (among-from (λ k. touches k r.a) f k p.0 (spared k r p.1 (x.2 r.q lost.has_q))) in
            (union b y.0, among-right (left_by r (atoms_at f i)) (joined f r gs i) (union b y.0) (among-joins b y.0 (filter (λ k. breaks k r) (atoms_at f i)) gs (among-from (λ k. breaks k r) (atoms_at f i) b (atom-among f i b a) bad) y.1), union-within b y.0 k x.2 y.2)
        | inr ok ↦ (b, among-left (left_by r (atoms_at f i)) (joined f r gs i) b (among-left_from (atoms_at f i) r b (atom-among f i b a) ok), x.2)
      ];
}

-- so do the base sets with the item that do not break the query, and those unions
pub wide-below : (f : List Items) (r : Query) (gs : List Items) (i : ℕ) → IsUnionClosed f → IsBelow gs (near f r) → IsBelow (having i (left_by r (base f)) ++ joined f r gs i) (having i (left_by r f))
wide-below f r gs i closed low =
    let narrow = candidates-below f r gs i closed low in
    below-more (left_by r (atoms_at f i) ++ joined f r gs i) (having i (left_by r (base f)) ++ joined f r gs i) (having i (left_by r f)) narrow
    (λ k c. elim (among-either (left_by r (atoms_at f i)) (joined f r gs i) k c) [
      | inl h ↦
          let p = among-left_parts (atoms_at f i) r k h in
          let a = atom-of f i k p.0 in
          among-left (having i (left_by r (base f))) (joined f r gs i) k (among-from (λ k. has k i) (left_by r (base f)) k (among-left_from (base f) r k (among-base f i k a) p.1) a.has_q)
      | inr h ↦ among-right (having i (left_by r (base f))) (joined f r gs i) k h
    ])
    (λ k c. elim (among-either (having i (left_by r (base f))) (joined f r gs i) k c) [
      | inl h ↦
          let x = among-parts (λ k. has k i) (left_by r (base f)) k h in
          let p = among-left_parts (base f) r k x.0 in
          among-from (λ k. has k i) (left_by r f) k (among-left_from f r k (base-member f k p.0) p.1) x.1
      | inr h ↦ narrow.part k (among-right (left_by r (atoms_at f i)) (joined f r gs i) k h)
    ])

-- so the least of them are the atoms
atoms-told : (f : List Items) (r : Query) (gs : List Items) (i : ℕ) → IsUnionClosed f → IsBelow gs (near f r) → (k : Items)
    → is_among (atoms_at (left_by r f) i) k ≡ is_among (least_sets (having i (left_by r (base f)) ++ joined f r gs i)) k
atoms-told f r gs i closed low k =
    ap (λ l. is_among l k) (atoms-least (left_by r f) i) ∙ same-least (having i (left_by r (base f)) ++ joined f r gs i) (having i (left_by r f)) (wide-below f r gs i closed low) k

-- ---- the base

-- a base set after the Yes is one before it that does not break the query, or is gained at some item
pub base-cases : (f : List Items) (r : Query) (gs : List Items) → IsUnionClosed f → IsBelow gs (near f r) → (k : Items)
    → is_among (base (left_by r f)) k ≡ true → (is_among (left_by r (base f)) k ≡ true) ⊎ ((i : ℕ) × (is_among (gained f r gs i) k ≡ true))
base-cases f r gs closed low k c =
    let x = base-atom (left_by r f) k c in
    let kept = having x.0 (left_by r (base f)) in
    elim (least-either kept (joined f r gs x.0) k (sym (atoms-told f r gs x.0 closed low k) ∙ atom-among (left_by r f) x.0 k x.1)) [
      | inl a ↦ inl (among-parts (λ k. has k x.0) (left_by r (base f)) k a).0
      | inr a ↦ inr (x.0, a)
    ]

pub gained-among : (f : List Items) (r : Query) (gs : List Items) (i : ℕ) → IsUnionClosed f → IsBelow gs (near f r) → IsPart (gained f r gs i) (base (left_by r f))
gained-among f r gs i closed low k c =
    among-base (left_by r f) i k (atom-of (left_by r f) i k (atoms-told f r gs i closed low k ∙ beside-least (having i (left_by r (base f))) (joined f r gs i) k c))

-- sets are gained only at an item of a member
pub gained-where : (f : List Items) (r : Query) (gs : List Items) (i : ℕ) (k : Items) → is_among (gained f r gs i) k ≡ true → (l : Items) × (is_among f l ≡ true) × (has l i ≡ true)
gained-where f r gs i k c =
    let p = among-parts (has_none_within (having i (left_by r (base f)))) (least_sets (joined f r gs i)) k c in
    let x = IsLeast-from (joined f r gs i) k p.0 in
    let j = from-joins k (filter (λ k. breaks k r) (atoms_at f i)) gs x.member in
    let a = atom-of f i j.left (among-parts (λ k. breaks k r) (atoms_at f i) j.left j.left_in).0 in
    (j.left, a.member, a.has_q)

-- the base, from any list in order of those sets
pub base-list : (f : List Items) (r : Query) (gs list : List Items) → IsUnionClosed f → IsBelow gs (near f r) → IsInOrder f → IsInOrder list
    → IsPart (left_by r (base f)) list → ((i : ℕ) → IsPart (gained f r gs i) list)
    → ((k : Items) → is_among list k ≡ true → (is_among (left_by r (base f)) k ≡ true) ⊎ ((i : ℕ) × (is_among (gained f r gs i) k ≡ true)))
    → base (left_by r f) ≡ list
base-list f r gs list closed low o p kept new only = same_members (base (left_by r f)) list (base-in_order (left_by r f) (IsInOrder-filter (λ k. not (breaks k r)) f o)) p
    (λ k c. elim (base-cases f r gs closed low k c) [ inl a ↦ kept k a | inr x ↦ new x.0 k x.1 ])
    (λ k c. elim (only k c) [ inl a ↦ stays-among f r k a | inr x ↦ gained-among f r gs x.0 closed low k x.1 ])

-- ---- where no base set breaks the query

base-breaks : (f : List Items) (r : Query) → some_breaks (base f) r ≡ some_breaks f r
base-breaks f r = same_truth (some_breaks (base f) r) (some_breaks f r) (some_breaks-part (base f) f r (base-member f)) (λ h.
    let b = breaker f r h in
    let lost = Breaks-from b.0 r b.2 in
    let x = atom_within f b.0 r.q b.1 lost.has_q in
    let a = x.1 in
    some_breaks-here (base f) x.0 r (among-base f r.q x.0 a) (breaks-from x.0 r (record { apart = λ i h. lost.apart i (x.2 i h); has_q = a.has_q })))

left-same : (f : List Items) (r : Query) → some_breaks f r ≡ false → left_by r f ≡ f
left-same [] r none = refl
left-same (k ∷ f) r none = elim (breaks k r) as (λ b. (b || some_breaks f r) ≡ false → cond (not b) (k ∷ left_by r f) (left_by r f) ≡ k ∷ f) [
  | true ↦ λ h. absurd (true≢false h)
  | false ↦ λ h. ap (λ l. k ∷ l) (left-same f r h)
] none

pub base-same : (f : List Items) (r : Query) → some_breaks (base f) r ≡ false → base (left_by r f) ≡ base f
base-same f r none = ap base (left-same f r (sym (base-breaks f r) ∙ none))
