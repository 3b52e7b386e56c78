-- The surmise function of a family: its clauses are the atoms, and the sets that meet it are the members.
use Rattle.ls_clauses.proofs.Vocabulary.{◌+◌, ◌<◌, ◌∙◌, ◌≡◌, ◌≤◌, Decides-is_same, IsAtom, IsCover, IsInOrder, IsInOrder-filter, AreOn, IsSurmise, IsWithin, IsWithin-from, Items, List, ℕ, [], ap, arith, atom_within, atoms_at, cases_lt, clauses_at, clauses_of, compat, compat-in_order, compat-sets, full, get_or, get_or_default, has, has-full, inl, inr, interior, interior-is, interior-whole, is_among, is_atom_at, is_within-from, length, lt-ltb, ltb-true, map, numbers_from, refl, same_lists, same_members, spanned, spanned-IsFamily, subst, suc, sym, true, true≢false, zero}
use Rattle.ls_theory.specs.Starts.{Clauses, Sets}
use Rattle.ls_laws.specs.Families.{IsFamily}
use Rattle.ls_clauses.proofs.Clauses.{within-clause, meets-clause, meets-from, member-parts, member-from, atom-among, among-atoms, atoms-clauses}
use Rattle.ls_clauses.proofs.Covers.{cover-member}

-- ---- what is listed for each number

listed-at : {X : Type 0} (g : ℕ → X) (d : X) (i m q : ℕ) → q < m → get_or (map g (numbers_from i m)) q d ≡ g (i + q)
listed-at g d i zero q h = absurd (omega arith)
listed-at g d i (suc m) zero h = ap g (let e : i ≡ i + 0 = omega arith in e)
listed-at g d i (suc m) (suc q) h = listed-at g d (suc i) m q (omega arith) ∙ ap g (let e : suc i + q ≡ i + suc q = omega arith in e)

listed-past : {X : Type 0} (g : ℕ → X) (d : X) (i m q : ℕ) → m ≤ q → get_or (map g (numbers_from i m)) q d ≡ d
listed-past g d i zero q h = refl
listed-past g d i (suc m) zero h = absurd (omega arith)
listed-past g d i (suc m) (suc q) h = listed-past g d (suc i) m q (omega arith)

length-listed : {X : Type 0} (g : ℕ → X) (i m : ℕ) → length (map g (numbers_from i m)) ≡ m
length-listed g i zero = refl
length-listed g i (suc m) = ap suc (length-listed g (suc i) m)

-- ---- the clauses

pub clauses-at : (n : ℕ) (f : List Items) (q : ℕ) → q < n → clauses_of (clauses_at n f) q ≡ atoms_at f q
clauses-at n f q l = listed-at (atoms_at f) [] 0 n q l ∙ ap (atoms_at f) (let e : 0 + q ≡ q = omega arith in e)

clauses-past : (n : ℕ) (f : List Items) (q : ℕ) → n ≤ q → clauses_of (clauses_at n f) q ≡ []
clauses-past n f q l = listed-past (atoms_at f) [] 0 n q l

-- they are atoms
clause-atom : (n : ℕ) (f : List Items) (q : ℕ) (c : Items) → is_among (clauses_of (clauses_at n f) q) c ≡ true → IsAtom f q c
clause-atom n f q c h =
    elim (cases_lt q n) [
      | inl l ↦ atom-among f q c (ap (λ cs. is_among cs c) (sym (clauses-at n f q l)) ∙ h)
      | inr l ↦ absurd (true≢false (sym h ∙ ap (λ cs. is_among cs c) (clauses-past n f q l)))
    ]

atom-clause : (n : ℕ) (f : List Items) (q : ℕ) (c : Items) → q < n → IsAtom f q c → is_among (clauses_of (clauses_at n f) q) c ≡ true
atom-clause n f q c l a = ap (λ cs. is_among cs c) (clauses-at n f q l) ∙ among-atoms f q c a

-- an item of a member
item-small : (n : ℕ) (f : List Items) (k : Items) (q : ℕ) → AreOn n f → is_among f k ≡ true → has k q ≡ true → q < n
item-small n f k q small c h = ltb-true q n (sym (has-full n q) ∙ small k c q h)

-- each item of a member has a clause within it
member-clause : (n : ℕ) (f : List Items) (k : Items) (q : ℕ) → AreOn n f → is_among f k ≡ true → has k q ≡ true → (c : Items) × (is_among (clauses_of (clauses_at n f) q) c ≡ true) × IsWithin c k
member-clause n f k q small c h =
    let r = atom_within f k q c h in
    (r.0, atom-clause n f q r.0 (item-small n f k q small c h) r.1, r.2)

-- a family with all items has a surmise function
pub family-surmise : (n : ℕ) (f : List Items) → IsFamily n f → is_among f (full n) ≡ true → IsSurmise n (clauses_at n f)
family-surmise n f family whole = record {
  each_item = length-listed (atoms_at f) 0 n;
  has_clause = λ q l e.
      let r = member-clause n f (full n) q family.small whole (has-full n q ∙ lt-ltb q n l) in
      true≢false (sym r.1 ∙ ap (λ cs. is_among cs r.0) e);
  in_order = λ q. elim (cases_lt q n) [
    | inl l ↦ subst IsInOrder (sym (clauses-at n f q l)) (IsInOrder-filter (is_atom_at f q) f family.in_order)
    | inr l ↦ subst IsInOrder (sym (clauses-past n f q l)) tt
  ];
  small = λ q c h. let a = clause-atom n f q c h in family.small c a.member;
  reflexive = λ q c h. let a = clause-atom n f q c h in a.has_q;
  closed = λ q c r h x.
      let a = clause-atom n f q c h in
      let y = member-clause n f c r family.small a.member x in
      within-clause (clauses_at n f) r c y.0 y.1 y.2;
  incomparable = λ q c d hc hd w.
      let a = clause-atom n f q c hc in
      let b = clause-atom n f q d hd in
      (Decides-is_same c d).1 (b.least c a.member (IsWithin-from c d w) a.has_q);
}

-- and the sets that meet it are the members
pub family-met : (n : ℕ) (f : List Items) → IsFamily n f → compat n (Clauses (clauses_at n f)) [] ≡ f
family-met n f family =
    same_members (compat n (Clauses clauses) []) f (compat-in_order n (Clauses clauses) []) family.in_order
    (λ k c.
    let m = member-parts n clauses k c in
    let whole : interior f k ≡ k = interior-whole f k (λ q h.
    let r = meets-clause clauses k q m.1 h in
    let a = clause-atom n f q r.0 r.1 in
    (r.0, a.member, r.2, a.has_q)) in
    let inside = interior-is f family.holds_empty family.holds_unions k in
    subst (λ t. is_among f t ≡ true) whole inside.member)
    (λ k c. member-from n clauses k (is_within-from k (full n) (family.small k c)) (meets-from clauses k (λ q h.
    let r = member-clause n f k q family.small c h in
    within-clause clauses q k r.0 r.1 r.2)))
  where
    clauses : List (List Items)
    clauses = clauses_at n f

-- ---- both ways

-- a surmise function is that of its family
pub surmise-again : (n : ℕ) (clauses : List (List Items)) → IsSurmise n clauses → clauses ≡ clauses_at n (compat n (Clauses clauses) [])
surmise-again n clauses surmise =
    same_lists clauses (clauses_at n f) (surmise.each_item ∙ sym (length-listed (atoms_at f) 0 n)) (λ q d l.
    let small : q < n = subst (λ m. q < m) surmise.each_item l in
    get_or_default clauses q d [] l
    ∙ sym (atoms-clauses n clauses surmise q)
    ∙ sym (listed-at (atoms_at f) d 0 n q small ∙ ap (atoms_at f) (let e : 0 + q ≡ q = omega arith in e)))
  where
    f : List Items
    f = compat n (Clauses clauses) []

-- so two with one family are one
pub surmise-same : (n : ℕ) (c d : List (List Items)) → IsSurmise n c → IsSurmise n d → compat n (Clauses c) [] ≡ compat n (Clauses d) [] → c ≡ d
surmise-same n c d hc hd e = surmise-again n c hc ∙ ap (clauses_at n) e ∙ sym (surmise-again n d hd)

-- sets that have each item give a surmise function with the family of their unions
pub cover-surmise : (n : ℕ) (sets : List Items) → IsCover n sets → IsSurmise n (clauses_at n (spanned n sets))
cover-surmise n sets cover = family-surmise n (spanned n sets) (spanned-IsFamily n sets) (cover-member n sets cover)

pub cover-met : (n : ℕ) (sets : List Items) → compat n (Clauses (clauses_at n (spanned n sets))) [] ≡ compat n (Sets sets) []
cover-met n sets = family-met n (spanned n sets) (spanned-IsFamily n sets) ∙ sym (compat-sets n sets)
