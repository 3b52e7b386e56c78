-- Bases and the families that they span.
use Rattle.ls_base.proofs.Vocabulary.{◌&&◌, ◌+◌, ◌<◌, ◌||◌, ◌∙◌, ◌≡◌, ◌≤◌, Bool, Decides-is_same, IsAtom-from, IsInOrder, IsInOrder-filter, AreOn, IsPart, IsUnionFamily, IsWithin, IsWithin-from, Items, List, Spans, ℕ, among-base, among-cases, among-filter, among-here, among-subsets, among-there, and_from, and_parts, ap, arith, atom_within, atoms_at, base, base-in_order, base-member, base-needed, cases_eq, empty, eq-eqb, eqb, eqb-true, false_from_ne_true, from-interior, full, has, has-empty, has-full, has-with, inl, inr, interior, interior-whole, is_among, is_atom_at, is_same, is_within, is_within-from, length, list_any, lt-ltb, ltb-true, map, most_base_sets, needed, not, not-true, not_from_false, range_with_len, refl, same_members, same_truth, same_within, single_sets, some-among, some-from, spanned, spanned-IsUnionFamily, spanned-base, spanned-has, spanned-in_order, spanned-same, spanned-whole, subsets, subsets-IsUnionFamily, subsets_from-in_order, subst, suc, sym, to-interior, true, true≢false, with, zero}
use Rattle.std.proofs.lemmas.List.FromFn.{length-map-range_with_len}
use Rattle.ls_set.specs.declared.item_set.TheConstants.{PLACES}
use Rattle.ls_base.proofs.Below.{interior-same}

-- ---- what a base spans

pub base-on : (n : ℕ) (g : List Items) → base (spanned n g) ≡ g → AreOn n g
base-on n g e k c = (spanned-IsUnionFamily n g).small k (base-member (spanned n g) k (ap (λ f. is_among f k) e ∙ c))

-- members of a family that span it span nothing else
pub spanned-is : (n : ℕ) (f g : List Items) → IsInOrder f → IsUnionFamily n f → IsPart g f → Spans g f → spanned n g ≡ f
spanned-is n f g order family part span =
    let e = spanned-same n f g family part span in
    same_members (spanned n g) f (spanned-in_order n g) order (λ k c. sym (e k) ∙ c) (λ k c. e k ∙ c)

-- the interior in what a list spans is the union of its sets within
pub interior-spanned : (n : ℕ) (g : List Items) (s : Items) → AreOn n g → interior g s ≡ interior (spanned n g) s
interior-spanned n g s small = same_within (interior g s) (interior (spanned n g) s)
    (λ i h. let r = from-interior g s i h in to-interior (spanned n g) s r.0 i (spanned-has n g small r.0 r.1) r.2 r.3)
    (λ i h.
    let r = from-interior (spanned n g) s i h in
    let x = from-interior g r.0 i (ap (λ t. has t i) (spanned-whole n g r.0 r.1) ∙ r.3) in
    to-interior g s x.0 i x.1 (λ j y. r.2 j (x.2 j y)) x.3)

-- ---- the base of what a list spans

-- the sets that are needed of those that span a family, put in order
pub base-told : (f all sorted : List Items) → IsInOrder f → IsPart all f → Spans all f → IsInOrder sorted → ((k : Items) → is_among sorted k ≡ is_among all k) → base f ≡ needed sorted
base-told f all sorted order part span sorted_order same =
    base-needed f sorted order sorted_order (λ k c. part k (sym (same k) ∙ c)) (λ k c. interior-same sorted all k same ∙ span k c)

pub base-listed : (n : ℕ) (all sorted : List Items) → AreOn n all → IsInOrder sorted → ((k : Items) → is_among sorted k ≡ is_among all k) → base (spanned n all) ≡ needed sorted
base-listed n all sorted small order same = base-told (spanned n all) all sorted (spanned-in_order n all) (spanned-has n all small) (spanned-whole n all) order same

-- a base of a family is the base of what it spans
pub base-again : (n : ℕ) (f sets : List Items) → IsInOrder f → IsUnionFamily n f → base f ≡ sets → base (spanned n sets) ≡ sets
base-again n f sets order family e = ap (λ g. base (spanned n g)) (sym e) ∙ ap base (spanned-base n f order family) ∙ e

-- ---- atoms

abbrev lesser : ℕ → Items → Items → Bool
lesser q k l = has l q && is_within l k && not (is_same l k)

-- the base tells which sets are atoms
pub is_atom_at-base : (f : List Items) (q : ℕ) (k : Items) → is_atom_at (base f) q k ≡ is_atom_at f q k
is_atom_at-base f q k = ap (λ b. has k q && not b) (same_truth (list_any (lesser q k) (base f)) (list_any (lesser q k) f)
    (λ h. let x = some-from (lesser q k) (base f) h in some-among (lesser q k) f x.0 (base-member f x.0 x.1) x.2)
    (λ h.
    let x = some-from (lesser q k) f h in
    let p = and_parts (has x.0 q && is_within x.0 k) (not (is_same x.0 k)) x.2 in
    let r = and_parts (has x.0 q) (is_within x.0 k) p.0 in
    let w = IsWithin-from x.0 k r.1 in
    let y = atom_within f x.0 q x.1 r.0 in
    let atom = y.1 in
    some-among (lesser q k) (base f) y.0 (among-base f q y.0 atom)
    (and_from (has y.0 q && is_within y.0 k) (not (is_same y.0 k)) (and_from (has y.0 q) (is_within y.0 k) atom.has_q (is_within-from y.0 k (λ i a. w i (y.2 i a))))
    (not_from_false (is_same y.0 k) (false_from_ne_true (is_same y.0 k) (λ e.
    let whole = subst (λ s. IsWithin s x.0) ((Decides-is_same y.0 k).0 e) y.2 in
    true≢false (sym ((Decides-is_same x.0 k).1 (same_within x.0 k w whole)) ∙ not-true (is_same x.0 k) p.1)))))))

-- and the atoms at an item are base sets
pub atoms_at-base : (f : List Items) (q : ℕ) → IsInOrder f → atoms_at (base f) q ≡ atoms_at f q
atoms_at-base f q order = same_members (atoms_at (base f) q) (atoms_at f q) (IsInOrder-filter (is_atom_at (base f) q) (base f) (base-in_order f order)) (IsInOrder-filter (is_atom_at f q) f order)
    (λ k c.
    let p = and_parts (is_among (base f) k) (is_atom_at (base f) q k) (sym (among-filter (is_atom_at (base f) q) (base f) k) ∙ c) in
    among-filter (is_atom_at f q) f k ∙ and_from (is_among f k) (is_atom_at f q k) (base-member f k p.0) (sym (is_atom_at-base f q k) ∙ p.1))
    (λ k c.
    let p = and_parts (is_among f k) (is_atom_at f q k) (sym (among-filter (is_atom_at f q) f k) ∙ c) in
    among-filter (is_atom_at (base f) q) (base f) k ∙ and_from (is_among (base f) k) (is_atom_at (base f) q k) (among-base f q k (IsAtom-from f q k p.0 p.1)) (is_atom_at-base f q k ∙ p.1))

-- ---- single items

has-alone : (q i : ℕ) → has (with empty q) i ≡ eqb i q
has-alone q i = has-with empty q i ∙ ap (λ b. b || eqb i q) (has-empty i)

alone-within : (q : ℕ) (k : Items) → has k q ≡ true → IsWithin (with empty q) k
alone-within q k h i a = ap (has k) (eqb-true i q (sym (has-alone q i) ∙ a)) ∙ h

among-singles : (i m q : ℕ) → i ≤ q → q < i + m → is_among (map (with empty) (range_with_len i m)) (with empty q) ≡ true
among-singles i zero q a b = absurd (omega arith)
among-singles i (suc m) q a b = elim (cases_eq i q) [
  | inl e ↦ among-here (with empty q) (with empty i) (map (with empty) (range_with_len (i + 1) m)) (ap (with empty) (sym e))
  | inr n ↦ among-there (with empty q) (with empty i) (map (with empty) (range_with_len (i + 1) m)) (among-singles (i + 1) m q (omega arith) (omega arith))
]

from-singles : (i m : ℕ) (k : Items) → is_among (map (with empty) (range_with_len i m)) k ≡ true → (q : ℕ) × (q < i + m) × (k ≡ with empty q)
from-singles i zero k c = absurd (true≢false (sym c))
from-singles i (suc m) k c = elim (among-cases k (with empty i) (map (with empty) (range_with_len (i + 1) m)) c) [
  | inl e ↦ (i, omega arith, e)
  | inr d ↦ let r = from-singles (i + 1) m k d in let l = r.1 in (r.0, omega arith, r.2)
]

pub singles-on : (n : ℕ) → AreOn n (single_sets n)
singles-on n k c =
    let r = from-singles 0 n k c in
    let l = r.1 in
    subst (λ s. IsWithin s (full n)) (sym r.2) (alone-within r.0 (full n) (has-full n r.0 ∙ lt-ltb r.0 n (omega arith)))

-- the single items span all sets
pub spanned-singles : (n : ℕ) → spanned n (single_sets n) ≡ subsets n
spanned-singles n =
    spanned-is n (subsets n) (single_sets n) (subsets_from-in_order 0 n) (subsets-IsUnionFamily n)
    (λ k c. among-subsets n k ∙ is_within-from k (full n) (singles-on n k c))
    (λ k c. interior-whole (single_sets n) k (λ q h.
    let l : q < n = ltb-true q n (sym (has-full n q) ∙ (subsets-IsUnionFamily n).small k c q h) in
    (with empty q, among-singles 0 n q (omega arith) (omega arith), alone-within q k h, has-alone q q ∙ eq-eqb q q refl)))

pub few-singles : (n m : ℕ) → n ≤ PLACES → m ≤ length (single_sets n) → m ≤ most_base_sets
few-singles n m few h = omega (arith, length-map-range_with_len (with empty) 0 n)
