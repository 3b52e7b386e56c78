-- Decimal numbers are ASCII, and are read by `parse`.
use Rattle.ls_cutting.proofs.Vocabulary.{◌&&◌, ◌<◌, ◌==◌, ◌^◌, ◌||◌, ◌∷◌, ◌≡◌, ◌≤◌, Bool, IsAscii, None, Result, Some, Text, ℕ, [], arith, cond, decimal, false, inl, inr, is_decimal, is_digit, is_some, length, list_all, nat_le, nat_lt, nat_tests, not, number_up_to, refl, rules, slice_index, suc, true, unwrap_or, zero}
use Rattle.std.specs.Str.Parse.{digits_value, ParsesUnsigned}
use Rattle.std.specs.Result.{OkIff}
use Rattle.std.proofs.lemmas.Fmt.{decimal_nonempty, decimal_digit, first_decimal, digits_decimal, digits_value-decimal}
use Rattle.std.proofs.lemmas.Str.Ascii.{IsAscii-nil, IsAscii-cons}
use Rattle.std.proofs.lemmas.Str.Parse.{IsNumeralModel, IsDigitsTest, numerals_by_value, parse_digits}
use Rattle.std.proofs.lemmas.Bool.{cases_lt, ltb-true, leb-true, lt-ltb, le-leb, and_parts}

pub ascii_where : (test : ℕ → Bool) → ((b : ℕ) → test b ≡ true → b < 128) → (w : Text) → list_all test w ≡ true → IsAscii w
ascii_where test below [] h = IsAscii-nil
ascii_where test below (b ∷ w) h =
    let parts = and_parts (test b) (list_all test w) h in
    IsAscii-cons b w (below b parts.0) (ascii_where test below w parts.1)

is_digit-ascii : (b : ℕ) → is_digit b ≡ true → b < 128
is_digit-ascii b h = grind (arith, nat_tests)

-- a decimal number is some digits
pub some_digits : (w : Text) → is_decimal w ≡ true → (0 < length w) × (list_all is_digit w ≡ true)
some_digits w h =
    let parts = and_parts (nat_lt 0 (length w) && list_all is_digit w) (length w == 1 || not (slice_index w 0 == 48)) h in
    let some = and_parts (nat_lt 0 (length w)) (list_all is_digit w) parts.0 in
    let long : 0 < length w = ltb-true 0 (length w) some.0 in
    (long, some.1)

pub is_decimal-ascii : (w : Text) → is_decimal w ≡ true → IsAscii w
is_decimal-ascii w h = ascii_where is_digit is_digit-ascii w (some_digits w h).1

pub number_up_to-decimal : (most : ℕ) (w : Text) → is_some (number_up_to most w) ≡ true → is_decimal w ≡ true
number_up_to-decimal most w h =
    elim (is_decimal w) as (λ d. is_some (cond (d && nat_le (digits_value 10 w) most) (Some (digits_value 10 w)) None) ≡ true → d ≡ true) [
      | true ↦ λ e. refl
      | false ↦ λ e. e
    ] h

-- the number that is read is at most the most, also where there is none
pub number-within : (most : ℕ) (w : Text) → unwrap_or (number_up_to most w) 0 ≤ most
number-within most w =
    elim (is_decimal w && nat_le (digits_value 10 w) most) as (λ t. is_decimal w && nat_le (digits_value 10 w) most ≡ t → unwrap_or (cond t (Some (digits_value 10 w)) None) 0 ≤ most) [
      | true ↦ λ e. leb-true (digits_value 10 w) most (and_parts (is_decimal w) (nat_le (digits_value 10 w) most) e).1
      | false ↦ λ e. omega arith
    ] refl

tells_digits : IsDigitsTest (λ ds. list_all is_digit ds ≡ true)
tells_digits = search rules

pub digits : IsNumeralModel (λ ds. list_all is_digit ds ≡ true) (digits_value 10)
digits = numerals_by_value _ tells_digits

-- a decimal number that does not fit 32 bits is past the most
pub past_most : (most : ℕ) (w : Text) → most < 2 ^ 32 → is_decimal w ≡ true → ((0 < length w) × (digits_value 10 w < 2 ^ 32) → ⊥) → None ≡ number_up_to most w
past_most most w fits d h =
    elim (cases_lt (digits_value 10 w) (2 ^ 32)) [
      | inl lt ↦ absurd (h ((some_digits w d).0, lt))
      | inr ge ↦ let past : nat_le (digits_value 10 w) most ≡ false = grind (arith, nat_tests) in rw (d, past) refl
    ]

-- what `parse` gives of a decimal number
pub parsed : {E : Type 0} (w : Text) (r : Result ℕ E) → ParsesUnsigned 32 10 w r → is_decimal w ≡ true → OkIff r ((0 < length w) × (digits_value 10 w < 2 ^ 32)) (digits_value 10 w)
parsed w r h d = parse_digits digits 32 w r h (some_digits w d).1

first-decimal : (n : ℕ) → n < 2 ^ 64 → (length (decimal n) == 1 || not (slice_index (decimal n) 0 == 48)) ≡ true
first-decimal zero fits = rw (decimal_digit 0 (omega arith)) refl
first-decimal (suc n) fits =
    let high : 48 < slice_index (decimal (suc n)) 0 = first_decimal (suc n) (omega arith) fits in
    grind (arith, nat_tests)

-- a number's own decimal spelling
pub is_decimal-decimal : (n : ℕ) → n < 2 ^ 64 → is_decimal (decimal n) ≡ true
is_decimal-decimal n fits =
    let long : nat_lt 0 (length (decimal n)) ≡ true = lt-ltb 0 (length (decimal n)) (decimal_nonempty n fits) in
    rw (long, digits_decimal digits n fits) (first-decimal n fits)

pub number_up_to-of_decimal : (most n : ℕ) → most < 2 ^ 64 → n ≤ most → number_up_to most (decimal n) ≡ Some n
number_up_to-of_decimal most n fits le =
    let small : n < 2 ^ 64 = omega arith in
    let within : nat_le n most ≡ true = le-leb n most le in
    rw (is_decimal-decimal n small, digits_value-decimal digits n small, within) refl
