-- Relations as surmise functions with one clause for each item.
use Rattle.std.proofs.Common.{ℕ, zero, suc, ◌<◌, ◌≤◌, ◌≡◌, ◌≢◌, ◌↔◌, inl, inr, true, false}
use Rattle.std.proofs.Common.{◌&&◌, ◌||◌, eqb, List, [], ◌∷◌, length, refl, sym, ap}
use Rattle.std.proofs.Common.{◌∙◌, subst, arith, true≢false, ltb-true}
use Rattle.std.specs.List.{list_any}
use Rattle.std.proofs.lemmas.Bool.{cases_lt, and_parts, and_from}
use Rattle.ls_set.specs.ItemSet.{Items, has, empty, full, is_within, is_among}
use Rattle.ls_set.specs.ItemSet.{subsets, IsInOrder, IsWithin}
use Rattle.ls_set.proofs.Sets.{has-empty, has-full, same_within}
use Rattle.ls_set.proofs.Sets.{Decides-is_same, is_within-from, IsWithin-from}
use Rattle.ls_set.proofs.Members.{among-here, among-cases, among-filter}
use Rattle.ls_set.proofs.Order.{among-subsets, subsets_from-in_order}
use Rattle.ls_theory.specs.Families.{is_space}
use Rattle.ls_theory.specs.Starts.{Clauses}
use Rattle.ls_theory.specs.Compatible.{compat}
use Rattle.ls_theory.specs.Bases.{base, atoms_at}
use Rattle.ls_theory.specs.Verdict.{is_well_graded, is_learning_space}
use Rattle.ls_laws.specs.Families.{IsFamily}
use Rattle.ls_laws.proofs.Lists.{same_members, IsInOrder-filter}
use Rattle.ls_laws.proofs.Interiors.{space-from}
use Rattle.ls_laws.proofs.Atoms.{IsAtom}
use Rattle.ls_laws.proofs.Climbs.{from_one_item, one_item}
use Rattle.ls_laws.proofs.Families.{compat-IsFamily}
use Rattle.ls_laws.proofs.WellGraded.{is_well_graded-decides}
use Rattle.ls_laws.proofs.Compat.{compat-in_order, all-items, items-all}
use Rattle.ls_theory.specs.Clauses.{all_clauses, clauses_of}
use Rattle.ls_clauses.specs.Surmise.{IsSurmise}
use Rattle.ls_clauses.proofs.Clauses.{atom-among, among-atoms, atoms-clauses, meets-clause}
use Rattle.ls_clauses.proofs.Clauses.{meets-from, member-from, member-parts}
use Rattle.ls_clauses.proofs.Clauses.{within-clause, base-clauses}
use Rattle.ls_clauses.proofs.Places.{place-of}
use Rattle.ls_clauses.proofs.Covers.{start-space}
use Rattle.ls_origins.specs.Relations.{below_of, is_kept, kept_sets, clauses_below}
use Rattle.ls_order.specs.Orders.{IsPreorder, IsAntisymmetric, IsOrder, is_meet_closed}
use Rattle.ls_order.specs.Orders.{has_one_atom}
use Rattle.ls_laws.proofs.Spans.{base-in_order}
use Rattle.ls_order.proofs.MeetClosed.{meet-closed-atoms}
use Rattle.ls_origins.proofs.Lengths.{AreDistinct, no_longer, distinct-no_longer}
use Rattle.ls_origins.proofs.Numbered.{number-every}

-- ---- one clause for each item

one-clause : (below : List Items) (q : ℕ) (c : Items)
    → is_among (clauses_of (clauses_below below) q) c ≡ true → c ≡ below_of below q
one-clause [] q c a = absurd (true≢false (sym a))
one-clause (b ∷ below) zero c a =
    elim (among-cases c b [] a) [ inl e ↦ e | inr d ↦ absurd (true≢false (sym d)) ]
one-clause (b ∷ below) (suc q) c a = one-clause below q c a

the-clause : (below : List Items) (q : ℕ) → q < length below → clauses_of (clauses_below below) q
    ≡ below_of below q ∷ []
the-clause [] q l = absurd (omega arith)
the-clause (b ∷ below) zero l = refl
the-clause (b ∷ below) (suc q) l = the-clause below q (omega arith)

clause-in_order : (below : List Items) (q : ℕ) → IsInOrder (clauses_of (clauses_below below) q)
clause-in_order [] q = tt
clause-in_order (b ∷ below) zero = (tt, tt)
clause-in_order (b ∷ below) (suc q) = clause-in_order below q

as-many : (below : List Items) → length (clauses_below below) ≡ length below
as-many [] = refl
as-many (b ∷ below) = ap suc (as-many below)

pub clause-below : (n : ℕ) (below : List Items) (q : ℕ) → IsPreorder n below → q < n
    → clauses_of (clauses_below below) q ≡ below_of below q ∷ []
clause-below n below q p l = the-clause below q (let e = p.each_item in omega arith)

below-here : (n : ℕ) (below : List Items) (q : ℕ) → IsPreorder n below → q < n
    → is_among (clauses_of (clauses_below below) q) (below_of below q) ≡ true
below-here n below q p l =
    ap (λ cs. is_among cs (below_of below q)) (clause-below n below q p l) ∙ among-here
    (below_of below q) (below_of below q) [] refl

pub below-small : (n : ℕ) (below : List Items) (q r : ℕ) → IsPreorder n below
    → has (below_of below q) r ≡ true → r < n
below-small n below q r p h = ltb-true r n (sym (has-full n r) ∙ p.small q r h)

past-end : (below : List Items) (q : ℕ) → length below ≤ q → below_of below q ≡ empty
past-end [] q l = refl
past-end (b ∷ below) zero l = absurd (omega arith)
past-end (b ∷ below) (suc q) l = past-end below q (omega arith)

pub above-small : (n : ℕ) (below : List Items) (q r : ℕ) → IsPreorder n below
    → has (below_of below q) r ≡ true → q < n
above-small n below q r p h = elim (cases_lt q n) [
  | inl l ↦ l
  | inr
      l ↦
      absurd
      (true≢false
      (sym h ∙ ap (λ s. has s r) (past-end below q (let e = p.each_item in omega arith)) ∙ has-empty
      r))
]

some-clause : (n : ℕ) (below : List Items) (q : ℕ) → IsPreorder n below → q < n
    → clauses_of (clauses_below below) q ≢ []
some-clause n below q p l e =
    true≢false (sym (below-here n below q p l) ∙ ap (λ cs. is_among cs (below_of below q)) e)

pub preorder-surmise : (n : ℕ) (below : List Items) → IsPreorder n below
    → IsSurmise n (clauses_below below)
preorder-surmise n below p = record {
  each_item = as-many below ∙ p.each_item;
  has_clause = λ q l. some-clause n below q p l;
  in_order = clause-in_order below;
  small = λ q c a. subst (λ s. IsWithin s (full n)) (sym (one-clause below q c a)) (p.small q);
  reflexive = λ q c a.
      let e = one-clause below q c a in
      elim (cases_lt q n) [
        | inl l ↦ ap (λ s. has s q) e ∙ p.reflexive q l
        | inr
            l ↦
            absurd
            (true≢false
            (sym a ∙ ap (λ cs. is_among cs c) (none below q (let e = p.each_item in omega arith))))
      ];
  closed = λ q c r a h.
      let e = one-clause below q c a in
      let b = ap (λ s. has s r) (sym e) ∙ h in
      let l = below-small n below q r p b in
      ap (λ cs. list_any (λ d. is_within d c) cs) (clause-below n below r p l)
      ∙ ap
      (λ t. t || false)
      (is_within-from (below_of below r) c
      (subst (λ s. IsWithin (below_of below r) s) (sym e) (p.transitive q r b)))
      ∙ refl;
  incomparable =
      λ q c d a b _. (Decides-is_same c d).1
      (one-clause below q c a ∙ sym (one-clause below q d b));
}
  where
    none : (below : List Items) (q : ℕ) → length below ≤ q → clauses_of (clauses_below below) q ≡ []
    none [] q l = refl
    none (b ∷ below) zero l = absurd (omega arith)
    none (b ∷ below) (suc q) l = none below q (omega arith)

-- ---- the family of a relation

pub among-kept : (n : ℕ) (below : List Items) (k : Items) → is_among (kept_sets n below) k
    ≡ (is_within k (full n) && is_kept below k)
unfolding kept_sets
among-kept n below k =
    among-filter (is_kept below) (subsets n) k ∙ ap (λ b. b && is_kept below k) (among-subsets n k)

pub kept-within : (below : List Items) (k : Items) (q : ℕ) → is_kept below k ≡ true → has k q ≡ true
    → IsWithin (below_of below q) k
kept-within below k q h a =
    IsWithin-from (below_of below q) k (all-items (λ q. is_within (below_of below q) k) k q h a)

pub kept-from : (below : List Items) (k : Items)
    → ((q : ℕ) → has k q ≡ true → IsWithin (below_of below q) k) → is_kept below k ≡ true
kept-from below k h =
    items-all (λ q. is_within (below_of below q) k) k
    (λ q a. is_within-from (below_of below q) k (h q a))

kept-in_order : (n : ℕ) (below : List Items) → IsInOrder (kept_sets n below)
unfolding kept_sets
kept-in_order n below = IsInOrder-filter _ (subsets n) (subsets_from-in_order 0 n)

-- the sets that meet the clauses
pub kept-compat : (n : ℕ) (below : List Items) → IsPreorder n below → kept_sets n below
    ≡ compat n (Clauses (clauses_below below)) []
kept-compat n below p =
    same_members (kept_sets n below) (compat n (Clauses (clauses_below below)) [])
    (kept-in_order n below) (compat-in_order n (Clauses (clauses_below below)) [])
    (λ k c.
    let a = and_parts (is_within k (full n)) (is_kept below k) (sym (among-kept n below k) ∙ c) in
    member-from n (clauses_below below) k a.0 (meets-from (clauses_below below) k (λ q h.
    let l = ltb-true q n (sym (has-full n q) ∙ IsWithin-from k (full n) a.0 q h) in
    within-clause (clauses_below below) q k (below_of below q) (below-here n below q p l)
    (kept-within below k q a.1 h))))
    (λ k c.
    let a = member-parts n (clauses_below below) k c in
    among-kept n below k ∙ and_from (is_within k (full n)) (is_kept below k) a.0
    (kept-from below k (λ q h.
    let r = meets-clause (clauses_below below) k q a.1 h in
    subst (λ s. IsWithin s k) (one-clause below q r.0 r.1) r.2)))

pub kept-IsFamily : (n : ℕ) (below : List Items) → IsPreorder n below
    → IsFamily n (kept_sets n below)
kept-IsFamily n below p =
    subst (IsFamily n) (sym (kept-compat n below p))
    (compat-IsFamily n (Clauses (clauses_below below)) [])

pub kept-space : (n : ℕ) (below : List Items) → IsPreorder n below
    → is_space (full n) (kept_sets n below) ≡ true
kept-space n below p =
    subst (λ f. is_space (full n) f ≡ true) (sym (kept-compat n below p))
    (start-space n (Clauses (clauses_below below)) [] (preorder-surmise n below p) refl)

-- the one atom at an item
pub kept-atoms : (n : ℕ) (below : List Items) (q : ℕ) → IsPreorder n below → q < n
    → atoms_at (kept_sets n below) q ≡ below_of below q ∷ []
kept-atoms n below q p l =
    ap (λ f. atoms_at f q) (kept-compat n below p) ∙ atoms-clauses n (clauses_below below)
    (preorder-surmise n below p) q ∙ clause-below n below q p l

pub kept-meets : (n : ℕ) (below : List Items) → IsPreorder n below
    → is_meet_closed (kept_sets n below) ≡ true
kept-meets n below p =
    meet-closed-atoms n (kept_sets n below) (kept-IsFamily n below p)
    (space-from (full n) (kept_sets n below) (kept-space n below p)).holds_whole
    ∙ number-every (has_one_atom (kept_sets n below)) 0 n
    (λ q l. let below_n : q < n = omega arith in ap (λ cs. eqb (length cs) 1)
    (kept-atoms n below q p below_n))

-- an atom at q is what is below q
atom-is : (n : ℕ) (below : List Items) (q : ℕ) (k : Items) → IsPreorder n below
    → IsAtom (kept_sets n below) q k → (q < n) × (k ≡ below_of below q)
atom-is n below q k p a =
    let l =
    ltb-true q n (sym (has-full n q) ∙ (kept-IsFamily n below p).small k a.member q a.has_q) in
    let c = among-atoms (kept_sets n below) q k a in (
      l,
      elim
          (among-cases k (below_of below q) []
          (ap (λ cs. is_among cs k) (sym (kept-atoms n below q p l)) ∙ c))
          [ inl e ↦ e | inr d ↦ absurd (true≢false (sym d)) ],
    )

atom-at : (n : ℕ) (below : List Items) (q : ℕ) → IsPreorder n below → q < n
    → IsAtom (kept_sets n below) q (below_of below q)
atom-at n below q p l =
    atom-among (kept_sets n below) q (below_of below q)
    (ap (λ cs. is_among cs (below_of below q)) (kept-atoms n below q p l) ∙ among-here
    (below_of below q) (below_of below q) [] refl)

-- two items below each other have the same items below them
pub same-below : (n : ℕ) (below : List Items) (q r : ℕ) → IsPreorder n below
    → has (below_of below q) r ≡ true → has (below_of below r) q ≡ true → below_of below q
    ≡ below_of below r
same-below n below q r p a b =
    same_within (below_of below q) (below_of below r) (p.transitive r q b) (p.transitive q r a)

-- the family is a learning space exactly where no two items are below each other
pub kept-learning : (n : ℕ) (below : List Items) → IsPreorder n below
    → (is_learning_space (full n) (kept_sets n below) ≡ true) ↔ IsAntisymmetric below
kept-learning n below p =
    let f = kept_sets n below in
    let space = kept-space n below p in
    let s = space-from (full n) f space in (
      λ h q r a b.
          let graded =
          (is_well_graded-decides f).0 (and_parts (is_space (full n) f) (is_well_graded f) h).1
          in
          let l = above-small n below q r p a in
          let k = below-small n below q r p a in
          let x = atom-at n below q p l in
          let y =
          subst (λ t. IsAtom f r t) (sym (same-below n below q r p a b)) (atom-at n below r p k)
          in
          one_item f graded s.holds_empty (below_of below q) q r x y,
      λ anti. and_from (is_space (full n) f) (is_well_graded f) space
          ((is_well_graded-decides f).1 (from_one_item f s.holds_unions (λ k q r x y.
          let a = atom-is n below q k p x in
          let b = atom-is n below r k p y in
          anti q r (ap (λ t. has t r) (sym a.1) ∙ y.has_q)
          (ap (λ t. has t q) (sym b.1) ∙ x.has_q)))),
    )

-- ---- how many base sets the family of a partial order has

all-below : (below : List Items) → all_clauses (clauses_below below) ≡ below
all-below [] = refl
all-below (b ∷ below) = ap (λ l. b ∷ l) (all-below below)

distinct-rows : (below : List Items)
    → ((i j : ℕ) → i < j → j < length below → below_of below i ≡ below_of below j → ⊥)
    → AreDistinct below
distinct-rows [] h = tt
distinct-rows (b ∷ below) h = (
  λ c. let r = place-of below b c in let l =
      r.1 in h 0 (suc r.0) (omega arith) (omega arith) (sym r.2),
  distinct-rows below (λ i j a l e. h (suc i) (suc j) (omega arith) (omega arith) e),
)

pub order-count : (n : ℕ) (below : List Items) → IsOrder n below → length (base (kept_sets n below))
    ≡ n
order-count n below o =
    let p = o.preorder in
    let f = kept_sets n below in
    let same : (k : Items) → is_among (base f) k ≡ is_among below k = λ k.
    ap (λ g. is_among (base g) k) (kept-compat n below p) ∙ base-clauses n (clauses_below below)
    (preorder-surmise n below p) k ∙ ap (λ g. is_among g k) (all-below below) in
    let most : length (base f) ≤ length below =
    no_longer (base f) below (base-in_order f (kept-in_order n below)) (λ k c. sym (same k) ∙ c)
    in
    let apart = distinct-rows below (λ i j a l e.
    let m : j < n = (let d = p.each_item in omega arith) in
    let m' : i < n = omega arith in
    let here =
    o.antisymmetric i j (ap (λ t. has t j) e ∙ p.reflexive j m)
    (ap (λ t. has t i) (sym e) ∙ p.reflexive i m') in
    omega arith) in
    let least : length below ≤ length (base f) =
    distinct-no_longer below (base f) apart (λ k c. same k ∙ c) in
    let d = p.each_item in
    omega arith
