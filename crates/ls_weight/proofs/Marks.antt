-- Places that are marked by the digits of words.
use Rattle.ls_weight.proofs.Vocabulary.{◌%◌, ◌*◌, ◌+◌, ◌-◌, ◌/◌, ◌<◌, ◌^◌, ◌∙◌, ◌≡◌, ◌≤◌, Bool, IsFirstFrom, IsRest, List, ℕ, agrees_at, ap, arith, bit_at, cases_lt, cond, eqb, false, get_or, inl, inr, not, refl, suc, sym, true, zero}
use Rattle.std.proofs.Common.{w64}
use Rattle.std.proofs.lemmas.Nat.{shr-shr, shr_le}
use Rattle.std.proofs.lemmas.Nat.Bits.{bit_at-trailing_zeros, bit_at-zero, bit_at_above, bit_at_set_other, bit_at_set_same}
use Rattle.std.specs.Int.{trailing_zeros}
use Rattle.std.specs.Int.RustNames.{bit_or}

pub other-digit : (b m : ℕ) → b < 2 → m ≡ 1 - b → eqb m 1 ≡ not (eqb b 1)
other-digit zero m l e = rw e refl
other-digit (suc zero) m l e = rw e refl
other-digit (suc (suc b)) m l e = absurd (omega arith)

digit-behind : (m s j : ℕ) → bit_at (m / 2 ^ s) j ≡ bit_at m (s + j)
digit-behind m s j = ap (λ n. n % 2) (shr-shr m s j)

-- the digits of a word for the places that agree
abbrev pub AreAgreeing : List ℕ → Bool → ℕ → ℕ → Type 0
AreAgreeing column right w word = (j : ℕ) → j < 64 → eqb (bit_at word j) 1 ≡ cond right (eqb (bit_at (get_or column w 0) j) 1) (not (eqb (bit_at (get_or column w 0) j) 1))

at-place : (column : List ℕ) (right : Bool) (w word k j : ℕ) → AreAgreeing column right w word → k / 64 ≡ w → k % 64 ≡ j → agrees_at column right k ≡ eqb (bit_at word j) 1
at-place column right w word k j h group digit = rw (group, digit) (sym (h j (omega arith)))

-- where the digits from one on are none, no place agrees
pub none-agree : (column : List ℕ) (right : Bool) (w word s k : ℕ) → AreAgreeing column right w word → word / 2 ^ s ≡ 0 → k / 64 ≡ w → s ≤ k % 64 → agrees_at column right k ≡ false
none-agree column right w word s k h none group l =
    let j : s + (k % 64 - s) ≡ k % 64 = omega arith in
    at-place column right w word k (k % 64) h group refl
    ∙ ap (λ n. eqb n 1) (ap (λ n. bit_at word n) (sym j) ∙ sym (digit-behind word s (k % 64 - s)) ∙ ap (λ n. bit_at n (k % 64 - s)) none ∙ bit_at-zero (k % 64 - s))

-- the lowest digit from one on is that of the first place that agrees
pub record IsLowestFrom (word s t : ℕ) : Type 0 where
  pub within : s + t < 64
  pub is : bit_at word (s + t) ≡ 1
  pub below : (j : ℕ) → j < t → bit_at word (s + j) ≡ 0

pub lowest-from : (word s : ℕ) → word < 2 ^ 64 → 0 < word / 2 ^ s → IsLowestFrom word s (trailing_zeros w64 (word / 2 ^ s))
lowest-from word s fits some =
    let rest = word / 2 ^ s in
    let t = trailing_zeros w64 rest in
    let small : rest < 2 ^ 64 = omega (arith, shr_le word s) in
    let low = bit_at-trailing_zeros w64 rest some small in
    let is : bit_at word (s + t) ≡ 1 = sym (digit-behind word s t) ∙ low.1 in
    record {
      within = elim (cases_lt (s + t) 64) [
        | inl lt ↦ lt
        | inr ge ↦ let none = bit_at_above word 64 (s + t) fits ge in absurd (omega arith)
      ];
      is = is;
      below = λ j l. sym (digit-behind word s j) ∙ low.2 j l;
    }

pub first-agrees : (column : List ℕ) (right : Bool) (w word s t k : ℕ) → AreAgreeing column right w word → IsLowestFrom word s t → k / 64 ≡ w → k % 64 ≡ s + t → agrees_at column right k ≡ true
first-agrees column right w word s t k h low group digit =
    at-place column right w word k (s + t) h group digit ∙ ap (λ n. eqb n 1) low.is

pub before-disagree : (column : List ℕ) (right : Bool) (w word s t k j : ℕ) → AreAgreeing column right w word → IsLowestFrom word s t → k / 64 ≡ w → k % 64 ≡ s + j → j < t → agrees_at column right k ≡ false
before-disagree column right w word s t k j h low group digit l =
    at-place column right w word k (s + j) h group digit ∙ ap (λ n. eqb n 1) (low.below j l)

pub lowest-whole : (word : ℕ) → word < 2 ^ 64 → 0 < word → IsLowestFrom word 0 (trailing_zeros w64 word)
lowest-whole word fits some =
    let e : word / 2 ^ 0 ≡ word = omega arith in
    rw e at (lowest-from word 0 fits (omega arith))

-- ---- a word that is put together

-- the first n digits are 1 where the places pass, and the others 0
pub record AreDigits (p : ℕ → Bool) (n word : ℕ) : Type 0 where
  pub done : (j : ℕ) → j < n → eqb (bit_at word j) 1 ≡ p j
  pub left : (j : ℕ) → n ≤ j → bit_at word j ≡ 0

pub digits-none : (p : ℕ → Bool) → AreDigits p 0 0
digits-none p = record { done = λ j l. absurd (omega arith); left = λ j l. bit_at-zero j }

pub digits-set : (p : ℕ → Bool) (n word : ℕ) → n < 64 → AreDigits p n word → p n ≡ true → AreDigits p (n + 1) (bit_or word (1 * 2 ^ n % 2 ^ 64))
digits-set p n word l h e = record {
  done = λ j b. elim (cases_lt j n) [
    | inl lt ↦ ap (λ d. eqb d 1) (bit_at_set_other w64 word n l j (omega arith)) ∙ h.done j lt
    | inr ge ↦ let same : j ≡ n = omega arith in rw same (ap (λ d. eqb d 1) (bit_at_set_same w64 word n l) ∙ sym e)
  ];
  left = λ j b. bit_at_set_other w64 word n l j (omega arith) ∙ h.left j (omega arith);
}

pub digits-kept : (p : ℕ → Bool) (n word : ℕ) → AreDigits p n word → p n ≡ false → AreDigits p (n + 1) word
digits-kept p n word h e = record {
  done = λ j b. elim (cases_lt j n) [
    | inl lt ↦ h.done j lt
    | inr ge ↦ let same : j ≡ n = omega arith in rw same (ap (λ d. eqb d 1) (h.left n (omega arith)) ∙ sym e)
  ];
  left = λ j b. h.left j (omega arith);
}

-- ---- the digits that are left of a word

pub rest-is : (column : List ℕ) (right : Bool) (word place : ℕ) → word < 2 ^ 64 → AreAgreeing column right (place / 64) word → IsRest column right place (word / 2 ^ (place % 64))
rest-is column right word place fits h = record {
  digits = λ j l.
      ap (λ d. eqb d 1) (digit-behind word (place % 64) j)
      ∙ sym (at-place column right (place / 64) word (place + j) (place % 64 + j) h (omega arith) (omega arith));
  none = λ j l. digit-behind word (place % 64) j ∙ bit_at_above word 64 (place % 64 + j) fits l;
}

rest-on : (column : List ℕ) (right : Bool) (place rest s : ℕ) → IsRest column right place rest → place % 64 + s < 64 → IsRest column right (place + s) (rest / 2 ^ s)
rest-on column right place rest s h l = record {
  digits = λ j b.
      let on : place + (s + j) ≡ place + s + j = omega arith in
      ap (λ d. eqb d 1) (digit-behind rest s j) ∙ h.digits (s + j) (omega arith) ∙ ap (λ k. agrees_at column right k) on;
  none = λ j b. digit-behind rest s j ∙ h.none (s + j) (omega arith);
}

-- the lowest digit behind the first one is that of the next place that agrees
pub next-in-rest : (column : List ℕ) (right : Bool) (place rest : ℕ) → rest < 2 ^ 64 → IsRest column right place rest → 0 < rest / 2 ^ 1 → let t = trailing_zeros w64 (rest / 2 ^ 1) in IsFirstFrom column right (place + 1) (place + 1 + t) (rest / 2 ^ 1 / 2 ^ t)
next-in-rest column right place rest fits h some =
    let t = trailing_zeros w64 (rest / 2 ^ 1) in
    let low = lowest-from rest 1 fits some in
    let within : place % 64 + (1 + t) < 64 = elim (cases_lt (place % 64 + (1 + t)) 64) [
      | inl lt ↦ lt
      | inr ge ↦ let is = low.is in let none = h.none (1 + t) ge in absurd (omega arith)
    ] in
    let at : place + (1 + t) ≡ place + 1 + t = omega arith in
    record {
      later = omega arith;
      none = λ k a b.
          let j : 1 + (k - (place + 1)) ≡ k - place = omega arith in
          let here : place + (1 + (k - (place + 1))) ≡ k = omega arith in
          ap (λ k. agrees_at column right k) (sym here)
          ∙ sym (h.digits (1 + (k - (place + 1))) (omega arith))
          ∙ ap (λ d. eqb d 1) (low.below (k - (place + 1)) (omega arith));
      agrees = λ l. ap (λ k. agrees_at column right k) (sym at) ∙ sym (h.digits (1 + t) within) ∙ ap (λ d. eqb d 1) low.is;
      digits = λ l. rw (shr-shr rest 1 t, ← at) (rest-on column right place rest (1 + t) h within);
    }
