-- Atoms are told by any members that span.
use Rattle.ls_clauses.proofs.Vocabulary.{◌&&◌, ◌∙◌, ◌≡◌, Bool, Decides-is_same, IsAtom, IsAtom-from, IsInOrder, IsInOrder-filter, IsPart, IsWithin, IsWithin-from, Items, List, Spans, ℕ, among-filter, and_from, and_parts, ap, atom_items, atoms_at, both_ways, false_from_ne_true, filter_agree, from-interior, has, is_among, is_atom_at, is_atom_at-from, is_same, is_within, is_within-from, items, list_any, not, not-true, not_from_false, same_members, same_within, some-among, some-from, subst, sym, true, true≢false}

-- ---- smaller sets with an item

abbrev pub lesser : ℕ → Items → Items → Bool
lesser q k l = has l q && is_within l k && not (is_same l k)

pub lesser-parts : (q : ℕ) (k l : Items) → lesser q k l ≡ true → (has l q ≡ true) × IsWithin l k × ¬ (l ≡ k)
lesser-parts q k l h =
    let x = and_parts (has l q && is_within l k) (not (is_same l k)) h in
    let y = and_parts (has l q) (is_within l k) x.0 in
    (y.0, IsWithin-from l k y.1, λ e. true≢false (sym ((Decides-is_same l k).1 e) ∙ not-true (is_same l k) x.1))

pub lesser-from : (q : ℕ) (k l : Items) → has l q ≡ true → IsWithin l k → ¬ (l ≡ k) → lesser q k l ≡ true
lesser-from q k l h w n =
    and_from (has l q && is_within l k) (not (is_same l k)) (and_from (has l q) (is_within l k) h (is_within-from l k w))
    (not_from_false (is_same l k) (false_from_ne_true (is_same l k) (λ e. n ((Decides-is_same l k).0 e))))

-- ---- atoms

pub atom-among : (f : List Items) (q : ℕ) (k : Items) → is_among (atoms_at f q) k ≡ true → IsAtom f q k
atom-among f q k c = let p = and_parts (is_among f k) (is_atom_at f q k) (sym (among-filter (is_atom_at f q) f k) ∙ c) in IsAtom-from f q k p.0 p.1

-- members that span tell which sets are atoms
pub is_atom_at-spanning : (f g : List Items) → IsPart g f → Spans g f → (q : ℕ) (k : Items) → is_atom_at g q k ≡ is_atom_at f q k
is_atom_at-spanning f g part span q k = ap (λ b. has k q && not b) (both_ways (list_any (lesser q k) g) (list_any (lesser q k) f)
    (λ h. let x = some-from (lesser q k) g h in some-among (lesser q k) f x.0 (part x.0 x.1) x.2)
    (λ h.
    let x = some-from (lesser q k) f h in
    let p = lesser-parts q k x.0 x.2 in
    let y = from-interior g x.0 q (ap (λ t. has t q) (span x.0 x.1) ∙ p.0) in
    some-among (lesser q k) g y.0 y.1 (lesser-from q k y.0 y.3 (λ i a. p.1 i (y.2 i a)) (λ e. p.2 (same_within x.0 k p.1 (subst (λ t. IsWithin t x.0) e y.2))))))

-- and each atom is one of them
pub atom-spanning : (f g : List Items) → IsPart g f → Spans g f → (q : ℕ) (k : Items) → IsAtom f q k → is_among g k ≡ true
atom-spanning f g part span q k a =
    let x = from-interior g k q (ap (λ t. has t q) (span k a.member) ∙ a.has_q) in
    subst (λ t. is_among g t ≡ true) (a.least x.0 (part x.0 x.1) x.2 x.3) x.1

pub atoms_at-spanning : (f g : List Items) → IsInOrder f → IsInOrder g → IsPart g f → Spans g f → (q : ℕ) → atoms_at g q ≡ atoms_at f q
atoms_at-spanning f g f_order g_order part span q =
    same_members (atoms_at g q) (atoms_at f q) (IsInOrder-filter (is_atom_at g q) g g_order) (IsInOrder-filter (is_atom_at f q) f f_order)
    (λ k c.
    let p = and_parts (is_among g k) (is_atom_at g q k) (sym (among-filter (is_atom_at g q) g k) ∙ c) in
    among-filter (is_atom_at f q) f k ∙ and_from (is_among f k) (is_atom_at f q k) (part k p.0) (sym (is_atom_at-spanning f g part span q k) ∙ p.1))
    (λ k c.
    let a = atom-among f q k c in
    among-filter (is_atom_at g q) g k
    ∙ and_from (is_among g k) (is_atom_at g q k) (atom-spanning f g part span q k a) (is_atom_at-spanning f g part span q k ∙ is_atom_at-from f q k a))

-- the items at which a set is an atom
pub atom_items-spanning : (f g : List Items) → IsPart g f → Spans g f → (k : Items) → atom_items g k ≡ atom_items f k
atom_items-spanning f g part span k = filter_agree (λ q. is_atom_at g q k) (λ q. is_atom_at f q k) (λ q. is_atom_at-spanning f g part span q k) (items k)
