-- The sets that meet the clauses of a surmise function: they are the unions of clauses, and the clauses are their atoms.
use Rattle.ls_clauses.proofs.Vocabulary.{◌&&◌, ◌∙◌, ◌∷◌, ◌≡◌, ◌≢◌, Decides-is_same, IsAtom, IsAtom-from, IsInOrder, IsInOrder-filter, AreOn, IsSurmise, IsWithin, IsWithin-from, Items, List, Query, ℕ, [], all-items, all_clauses, among-append, among-base, among-compat, among-filter, among-here, and_from, and_parts, ap, arith, atoms_at, base, base-atom, base-in_order, breaks_none, cases_eq, clauses_of, compat, compat-in_order, compat-sets, false, from-interior, full, has, has_clause_within, inl, inr, interior, interior-member, interior-whole, interior_again, interior_grows, is_among, is_atom_at, is_atom_at-from, is_compatible, is_same, is_within, is_within-from, items-all, members, or_cases, or_left, or_right, refl, same_members, same_truth, same_within, some-among, some-from, spanned, subsets, subst, suc, sym, true, true≢false, without, without-within, zero}
use Rattle.std.proofs.lemmas.Bool.Decides.{nat_tests}
use Rattle.std.proofs.lemmas.List.Elements.{filter_agree}
use Rattle.ls_theory.specs.Starts.{Clauses, Sets, meets}
use Rattle.ls_clauses.proofs.Spanning.{interior-spanned}

-- ---- lists of lists

pub among-all : (clauses : List (List Items)) (q : ℕ) (c : Items) → is_among (clauses_of clauses q) c ≡ true → is_among (all_clauses clauses) c ≡ true
among-all [] q c h = absurd (true≢false (sym h))
among-all (cs ∷ rest) zero c h = among-append cs (all_clauses rest) c ∙ or_left (is_among cs c) (is_among (all_clauses rest) c) h
among-all (cs ∷ rest) (suc q) c h = among-append cs (all_clauses rest) c ∙ or_right (is_among cs c) (is_among (all_clauses rest) c) (among-all rest q c h)

pub from-all : (clauses : List (List Items)) (c : Items) → is_among (all_clauses clauses) c ≡ true → (q : ℕ) × (is_among (clauses_of clauses q) c ≡ true)
from-all [] c h = absurd (true≢false (sym h))
from-all (cs ∷ rest) c h =
    elim (or_cases (is_among cs c) (is_among (all_clauses rest) c) (sym (among-append cs (all_clauses rest) c) ∙ h)) [
      | inl a ↦ (zero, a)
      | inr a ↦ let r = from-all rest c a in (suc r.0, r.1)
    ]

-- a list that is not empty has a set
pub some_set : (cs : List Items) → cs ≢ [] → (c : Items) × (is_among cs c ≡ true)
some_set [] h = absurd (h refl)
some_set (c ∷ cs) h = (c, among-here c c cs refl)

-- ---- which sets meet the clauses

pub clause-within : (clauses : List (List Items)) (q : ℕ) (s : Items) → has_clause_within clauses q s ≡ true → (c : Items) × (is_among (clauses_of clauses q) c ≡ true) × IsWithin c s
clause-within clauses q s h = let r = some-from (λ c. is_within c s) (clauses_of clauses q) h in (r.0, r.1, IsWithin-from r.0 s r.2)

pub within-clause : (clauses : List (List Items)) (q : ℕ) (s c : Items) → is_among (clauses_of clauses q) c ≡ true → IsWithin c s → has_clause_within clauses q s ≡ true
within-clause clauses q s c h w = some-among (λ c. is_within c s) (clauses_of clauses q) c h (is_within-from c s w)

pub meets-clause : (clauses : List (List Items)) (k : Items) (q : ℕ) → meets (Clauses clauses) k ≡ true → has k q ≡ true → (c : Items) × (is_among (clauses_of clauses q) c ≡ true) × IsWithin c k
meets-clause clauses k q h a = clause-within clauses q k (all-items (λ q. has_clause_within clauses q k) k q h a)

pub meets-from : (clauses : List (List Items)) (k : Items) → ((q : ℕ) → has k q ≡ true → has_clause_within clauses q k ≡ true) → meets (Clauses clauses) k ≡ true
meets-from clauses k h = items-all (λ q. has_clause_within clauses q k) k h

-- each clause does
pub clause-meets : (n : ℕ) (clauses : List (List Items)) → IsSurmise n clauses → (q : ℕ) (c : Items) → is_among (clauses_of clauses q) c ≡ true → meets (Clauses clauses) c ≡ true
clause-meets n clauses surmise q c h = meets-from clauses c (λ r a. surmise.closed q c r h a)

-- those that do are the unions of clauses
pub meets-unions : (n : ℕ) (clauses : List (List Items)) → IsSurmise n clauses → (k : Items) → meets (Clauses clauses) k ≡ meets (Sets (all_clauses clauses)) k
meets-unions n clauses surmise k = same_truth (meets (Clauses clauses) k) (is_same (interior all k) k)
    (λ h. (Decides-is_same (interior all k) k).1 (interior-whole all k (λ q a.
    let r = meets-clause clauses k q h a in
    (r.0, among-all clauses q r.0 r.1, r.2, surmise.reflexive q r.0 r.1))))
    (λ h. meets-from clauses k (λ q a.
    let x = from-interior all k q (ap (λ t. has t q) ((Decides-is_same (interior all k) k).0 h) ∙ a) in
    let o = from-all clauses x.0 x.1 in
    let y = meets-clause clauses x.0 q (clause-meets n clauses surmise o.0 x.0 o.1) x.3 in
    within-clause clauses q k y.0 y.1 (λ i b. x.2 i (y.2 i b))))
  where
    all : List Items
    all = all_clauses clauses

pub compat-clauses : (n : ℕ) (clauses : List (List Items)) → IsSurmise n clauses → (yeses : List Query) → compat n (Clauses clauses) yeses ≡ compat n (Sets (all_clauses clauses)) yeses
unfolding compat
compat-clauses n clauses surmise yeses =
    filter_agree (is_compatible (Clauses clauses) yeses) (is_compatible (Sets (all_clauses clauses)) yeses) (λ k.
    ap (λ b. b && breaks_none yeses k) (meets-unions n clauses surmise k)) (subsets n)

pub compat-spanned : (n : ℕ) (clauses : List (List Items)) → IsSurmise n clauses → compat n (Clauses clauses) [] ≡ spanned n (all_clauses clauses)
compat-spanned n clauses surmise = compat-clauses n clauses surmise [] ∙ compat-sets n (all_clauses clauses)

-- ---- the members

pub all-small : (n : ℕ) (clauses : List (List Items)) → IsSurmise n clauses → AreOn n (all_clauses clauses)
all-small n clauses surmise c h = let o = from-all clauses c h in surmise.small o.0 c o.1

pub member-parts : (n : ℕ) (clauses : List (List Items)) (k : Items) → is_among (compat n (Clauses clauses) []) k ≡ true → (is_within k (full n) ≡ true) × (meets (Clauses clauses) k ≡ true)
member-parts n clauses k c =
    let a = and_parts (is_within k (full n)) (meets (Clauses clauses) k && true) (sym (among-compat n (Clauses clauses) [] k) ∙ c) in
    (a.0, (and_parts (meets (Clauses clauses) k) true a.1).0)

pub member-from : (n : ℕ) (clauses : List (List Items)) (k : Items) → is_within k (full n) ≡ true → meets (Clauses clauses) k ≡ true → is_among (compat n (Clauses clauses) []) k ≡ true
member-from n clauses k w m =
    among-compat n (Clauses clauses) [] k ∙ and_from (is_within k (full n)) (meets (Clauses clauses) k && true) w (and_from (meets (Clauses clauses) k) true m refl)

pub member-meets : (n : ℕ) (clauses : List (List Items)) (k : Items) → is_among (compat n (Clauses clauses) []) k ≡ true → meets (Clauses clauses) k ≡ true
member-meets n clauses k c = (member-parts n clauses k c).1

clause-member : (n : ℕ) (clauses : List (List Items)) → IsSurmise n clauses → (q : ℕ) (c : Items) → is_among (clauses_of clauses q) c ≡ true → is_among (compat n (Clauses clauses) []) c ≡ true
clause-member n clauses surmise q c h = member-from n clauses c (is_within-from c (full n) (surmise.small q c h)) (clause-meets n clauses surmise q c h)

-- ---- the atoms

pub atom-among : (f : List Items) (q : ℕ) (k : Items) → is_among (atoms_at f q) k ≡ true → IsAtom f q k
atom-among f q k c = let p = and_parts (is_among f k) (is_atom_at f q k) (sym (among-filter (is_atom_at f q) f k) ∙ c) in IsAtom-from f q k p.0 p.1

pub among-atoms : (f : List Items) (q : ℕ) (k : Items) → IsAtom f q k → is_among (atoms_at f q) k ≡ true
among-atoms f q k a = among-filter (is_atom_at f q) f k ∙ and_from (is_among f k) (is_atom_at f q k) a.member (is_atom_at-from f q k a)

pub atoms-clauses : (n : ℕ) (clauses : List (List Items)) → IsSurmise n clauses → (q : ℕ) → atoms_at (compat n (Clauses clauses) []) q ≡ clauses_of clauses q
atoms-clauses n clauses surmise q =
    same_members (atoms_at f q) (clauses_of clauses q) (IsInOrder-filter (is_atom_at f q) f (compat-in_order n (Clauses clauses) [])) (surmise.in_order q)
    (λ k c.
    let a = atom-among f q k c in
    let r = meets-clause clauses k q (member-meets n clauses k a.member) a.has_q in
    subst (λ t. is_among (clauses_of clauses q) t ≡ true) (a.least r.0 (clause-member n clauses surmise q r.0 r.1) r.2 (surmise.reflexive q r.0 r.1)) r.1)
    (λ k c. among-atoms f q k (record {
      member = clause-member n clauses surmise q k c;
      has_q = surmise.reflexive q k c;
      least = λ l cl w hl.
          let y = meets-clause clauses l q (member-meets n clauses l cl) hl in
          let e = (Decides-is_same y.0 k).0 (surmise.incomparable q y.0 k y.1 c (is_within-from y.0 k (λ i a. w i (y.2 i a)))) in
          same_within l k w (subst (λ t. IsWithin t l) e y.2);
    }))
  where
    f : List Items
    f = compat n (Clauses clauses) []

pub base-clauses : (n : ℕ) (clauses : List (List Items)) → IsSurmise n clauses → (k : Items) → is_among (base (compat n (Clauses clauses) [])) k ≡ is_among (all_clauses clauses) k
base-clauses n clauses surmise k = same_truth (is_among (base f) k) (is_among (all_clauses clauses) k)
    (λ c.
    let r = base-atom f k c in
    among-all clauses r.0 k (ap (λ cs. is_among cs k) (sym (atoms-clauses n clauses surmise r.0)) ∙ among-atoms f r.0 k r.1))
    (λ c.
    let o = from-all clauses k c in
    among-base f o.0 k (atom-among f o.0 k (ap (λ cs. is_among cs k) (atoms-clauses n clauses surmise o.0) ∙ o.1)))
  where
    f : List Items
    f = compat n (Clauses clauses) []

pub base-ordered : (n : ℕ) (clauses : List (List Items)) (g : List Items) → IsSurmise n clauses → IsInOrder g → ((k : Items) → is_among g k ≡ is_among (all_clauses clauses) k) → base (compat n (Clauses clauses) []) ≡ g
base-ordered n clauses g surmise order same =
    same_members (base f) g (base-in_order f (compat-in_order n (Clauses clauses) [])) order
    (λ k c. same k ∙ sym (base-clauses n clauses surmise k) ∙ c)
    (λ k c. base-clauses n clauses surmise k ∙ sym (same k) ∙ c)
  where
    f : List Items
    f = compat n (Clauses clauses) []

-- ---- interiors

pub interior-clauses : (n : ℕ) (clauses : List (List Items)) → IsSurmise n clauses → (s : Items) → interior (compat n (Clauses clauses) []) s ≡ interior (all_clauses clauses) s
interior-clauses n clauses surmise s =
    ap (λ f. interior f s) (compat-spanned n clauses surmise) ∙ interior-spanned n (all_clauses clauses) (all-small n clauses surmise) s

-- a set within another, and about its interior, has the same interior
pub interior-between : (f : List Items) (s t : Items) → IsWithin t s → IsWithin (interior f s) t → interior f t ≡ interior f s
interior-between f s t w h = same_within (interior f t) (interior f s) (interior_grows f t s w)
    (λ i a. interior_grows f (interior f s) t h i (ap (λ u. has u i) (interior_again f s) ∙ a))

-- an item without a clause within the set can be dropped
pub interior-dropped : (n : ℕ) (clauses : List (List Items)) (s : Items) (q : ℕ) → has_clause_within clauses q s ≡ false
    → interior (compat n (Clauses clauses) []) (without s q) ≡ interior (compat n (Clauses clauses) []) s
interior-dropped n clauses s q none = interior-between f s (without s q) (without-within s q) (λ i h.
    let r = from-interior f s i h in
    let inside = r.2 i r.3 in
    elim (cases_eq i q) [
      | inl e ↦
          let y = meets-clause clauses r.0 q (member-meets n clauses r.0 r.1) (ap (has r.0) (sym e) ∙ r.3) in
          absurd (true≢false (sym (within-clause clauses q s y.0 y.1 (λ j a. r.2 j (y.2 j a))) ∙ none))
      | inr n ↦ grind (arith, members, nat_tests)
    ])
  where
    f : List Items
    f = compat n (Clauses clauses) []

-- and a set each of whose items has one is a member
pub interior-met : (n : ℕ) (clauses : List (List Items)) (s : Items) → IsWithin s (full n) → meets (Clauses clauses) s ≡ true → interior (compat n (Clauses clauses) []) s ≡ s
interior-met n clauses s w m = interior-member (compat n (Clauses clauses) []) s (member-from n clauses s (is_within-from s (full n) w) m)
