-- Loops over the rows of a relation.
use Rattle.std.proofs.Common.{ℕ, ◌+◌, ◌<◌, ◌≤◌, ◌≡◌, inl, inr, true, false, ◌&&◌, cond}
use Rattle.std.proofs.Common.{ltb}
use Rattle.std.proofs.Common.{List, length, get_or, set, sym, ap, ◌∙◌, arith, lt-ltb}
use Rattle.std.proofs.Common.{ne_eqb}
use Rattle.std.proofs.lemmas.Bool.{cases_eq}
use Rattle.std.proofs.lemmas.Bool.Decides.{nat_tests}
use Rattle.std.proofs.lemmas.List.{get_or_read, get_or-set_same, get_or-set_other}
use Rattle.ls_set.specs.ItemSet.{Items, has, empty, with}
use Rattle.ls_set.proofs.Sets.{has-empty, has-with}
use Rattle.ls_origins.specs.Relations.{below_of}
use Rattle.ls_order.specs.Orders.{AreAbove}

-- what a loop has read at a place
pub row-read : (rows : List Items) (i : ℕ) (row : Items) → i < length rows → row ≡ get_or rows i row
    → row ≡ below_of rows i
row-read rows i row l is = get_or_read rows i row l is empty

-- ---- each item is put into its own row

abbrev pub AreOwn : List Items → ℕ → List Items → Type 0
AreOwn given item rows = (q : ℕ) → q < length given
    → below_of rows q ≡ cond (ltb q item) (with (below_of given q) q) (below_of given q)

not-less : (i : ℕ) → ltb i i ≡ false
not-less i = grind (arith, nat_tests)

less-next : (q i : ℕ) → ¬ (q ≡ i) → ltb q i ≡ ltb q (i + 1)
less-next q i other = let e = ne_eqb q i other in grind (arith, nat_tests)

pub own-next : (given rows : List Items) (i : ℕ) (row : Items) → i < length given
    → length rows ≡ length given → row ≡ get_or rows i row → AreOwn given i rows
    → AreOwn given (i + 1) (set rows i (with row i))
own-next given rows i row l e is before q small = elim (cases_eq q i) [
  | inl same ↦
      let read : row ≡ below_of given i =
      row-read rows i row (omega arith) is ∙ before i l ∙ ap
      (λ b. cond b (with (below_of given i) i) (below_of given i)) (not-less i) in
      let here : below_of (set rows i (with row i)) i ≡ with (below_of given i) i =
      get_or-set_same rows i (with row i) empty (omega arith) ∙ ap (λ s. with s i) read in
      ap (below_of (set rows i (with row i))) same ∙ here ∙ ap (λ k. with (below_of given k) k)
      (sym same) ∙ ap (λ b. cond b (with (below_of given q) q) (below_of given q))
      (sym (lt-ltb q (i + 1) (omega arith)))
  | inr other ↦ get_or-set_other rows i q (with row i) empty other ∙ before q small
      ∙ ap (λ b. cond b (with (below_of given q) q) (below_of given q)) (less-next q i other)
]

pub own-all : (given rows : List Items) (end : ℕ) → length given ≤ end → AreOwn given end rows
    → (q : ℕ) → q < length given → below_of rows q ≡ with (below_of given q) q
own-all given rows end all h q l =
    h q l ∙ ap (λ b. cond b (with (below_of given q) q) (below_of given q))
    (lt-ltb q end (omega arith))

-- ---- the items that have an item below them

abbrev pub AreAboveTo : List Items → ℕ → ℕ → Items → Type 0
AreAboveTo below low item above =
    (x : ℕ) → has above x ≡ (ltb x item && has (below_of below x) low)

pub above-none : (below : List Items) (low : ℕ) → AreAboveTo below low 0 empty
above-none below low x = has-empty x ∙ grind (arith, nat_tests)

pub above-one : (below : List Items) (low i : ℕ) (above row : Items) → i < length below
    → row ≡ get_or below i row → has row low ≡ true → AreAboveTo below low i above
    → AreAboveTo below low (i + 1) (with above i)
above-one below low i above row l is h before x = elim (cases_eq x i) [
  | inl same ↦
      let read = ap (λ k. has (below_of below k) low) same ∙ ap (λ s. has s low)
      (sym (row-read below i row l is)) ∙ h in
      let here = before x in
      let put = has-with above i x in
      grind (arith, nat_tests)
  | inr other ↦
      let e = ne_eqb x i other in
      let here = before x in
      let put = has-with above i x in
      grind (arith, nat_tests)
]

pub above-other : (below : List Items) (low i : ℕ) (above row : Items) → i < length below
    → row ≡ get_or below i row → has row low ≡ false → AreAboveTo below low i above
    → AreAboveTo below low (i + 1) above
above-other below low i above row l is h before x = elim (cases_eq x i) [
  | inl same ↦
      let read = ap (λ k. has (below_of below k) low) same ∙ ap (λ s. has s low)
      (sym (row-read below i row l is)) ∙ h in
      let here = before x in
      grind (arith, nat_tests)
  | inr other ↦ let e = ne_eqb x i other in let here = before x in grind (arith, nat_tests)
]

pub above-all : (below : List Items) (low end : ℕ) (above : Items) → length below ≤ end
    → AreAboveTo below low end above → AreAbove (length below) below low above
above-all below low end above all h x l =
    h x ∙ ap (λ b. b && has (below_of below x) low) (lt-ltb x end (omega arith))
