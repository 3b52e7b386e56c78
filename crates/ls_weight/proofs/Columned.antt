-- Columns of words, one item's behind another's.
use Rattle.ls_weight.proofs.Vocabulary.{◌%◌, ◌*◌, ◌+◌, ◌-◌, ◌/◌, ◌<◌, ◌∙◌, ◌≡◌, ◌≤◌, AreColumns, IsColumn, List, ℕ, ap, arith, bit_at, drop, eqb, get_or, length, mul-add, mul-le-mul_left, mul-one, mul_comm, sym, take, width_of, words_of}
use Rattle.std.proofs.Math.Nat.{div-add-mod, div-eq_of_lt, mul-add-div}
use Rattle.ls_theory.specs.{most_states}
use Rattle.ls_weight.proofs.Passing.{row-full, row-index, row-is}

-- the word of the item for the states from `first` on
abbrev pub IsWord : List ℕ → ℕ → ℕ → ℕ → ℕ → Type 0
IsWord bytes width first q word = (j : ℕ) → j < 64 → eqb (bit_at word j) 1 ≡ eqb (bit_at (get_or bytes (width * (first + j) + q / 8) 0) (q % 8)) 1

-- which item's word stands at a place, and for which states
pub record IsPlace (at words n : ℕ) : Type 0 where
  pub some : 0 < words
  pub item : at / words < n
  pub word : at % words < words

word-item : (words q r : ℕ) → r < words → (words * q + r) / words ≡ q
word-item words q r l =
    mul-add-div (let some : 0 < words = omega arith in some) q r ∙ (let none = div-eq_of_lt l in omega arith)

word-states : (words q r : ℕ) → r < words → (words * q + r) % words ≡ r
word-states words q r l =
    let item = word-item words q r l in
    let parts = rw item at (div-add-mod (words * q + r) words) in
    omega arith

pub columns-are : (n m : ℕ) (bytes columns : List ℕ) → m ≤ most_states → length columns ≡ words_of m * n → ((k : ℕ) → k < words_of m * n → IsWord bytes (width_of n) (64 * (k % words_of m)) (k / words_of m) (get_or columns k 0)) → AreColumns n m bytes columns
columns-are n m bytes columns few each words = record {
  each = each;
  column = λ q l.
      let w = words_of m in
      let full = row-full columns w n q each l in
      record {
        few = omega arith;
        long = omega arith;
        marks = λ i b.
            let r = i / 64 in
            let here : r < w = omega arith in
            let next : w * (q + 1) ≡ w * q + w * 1 = mul-add w q 1 in
            let one = mul-one w in
            let most : w * (q + 1) ≤ w * n = mul-le-mul_left w (let k : q + 1 ≤ n = omega arith in k) in
            let own = words (w * q + r) (omega arith) (i % 64) (omega arith) in
            let state : 64 * r + i % 64 ≡ i = omega arith in
            ap (λ x. eqb (bit_at x (i % 64)) 1) (row-index columns w q r 0 here)
            ∙ rw (word-item w q r here, word-states w q r here, state) at own
            ∙ ap (λ x. eqb (bit_at x (q % 8)) 1) (sym (row-index bytes (width_of n) i (q / 8) 0 (omega arith)));
      };
}

-- the part of the columns for an item is its column
pub column-of : (n m : ℕ) (bytes columns : List ℕ) (q len : ℕ) → AreColumns n m bytes columns → q < n → len ≡ length columns → IsColumn (take (len / n * (q + 1) - len / n * q) (drop (len / n * q) columns)) bytes (width_of n) q m
column-of n m bytes columns q len h l e =
    let w = words_of m in
    let comm = mul_comm w n in
    let all : len ≡ n * w + 0 = omega (arith, h.each) in
    let words : len / n ≡ w = ap (λ k. k / n) all ∙ word-item n w 0 (omega arith) in
    rw (words, row-is columns w q) (h.column q l)
