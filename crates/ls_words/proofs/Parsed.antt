-- A number is what `parse` gives.
use Rattle.std.proofs.Common.{ℕ, ◌≡◌, ◌<◌, ◌^◌, refl, arith, true, false, cond, ◌&&◌, nat_le, Some, None, Result, is_some}
use Rattle.std.specs.Result.{result_ok}
use Rattle.std.specs.Str.Parse.{digits_value, ParsesUnsigned}
use Rattle.std.proofs.lemmas.Str.Parse.{parse_gives}
use Rattle.std.proofs.lemmas.Bool.{leb-true, and_parts}
use Rattle.ls_cutting.specs.{Text, is_decimal, number_up_to}
use Rattle.ls_cutting.proofs.Numbers.{digits, some_digits}

-- a number is decimal and at most the most
parts_of_number : (most : ℕ) (w : Text) → is_some (number_up_to most w) ≡ true → (is_decimal w ≡ true) × (nat_le (digits_value 10 w) most ≡ true)
parts_of_number most w h =
    and_parts (is_decimal w) (nat_le (digits_value 10 w) most) (elim (is_decimal w && nat_le (digits_value 10 w) most) as (λ t. is_some (cond t (Some (digits_value 10 w)) None) ≡ true → t ≡ true) [
      | true ↦ λ e. refl
      | false ↦ λ e. e
    ] h)

pub number_parsed : {E : Type 0} (most : ℕ) (w : Text) (r : Result ℕ E) → most < 2 ^ 32 → is_some (number_up_to most w) ≡ true → ParsesUnsigned 32 10 w r → result_ok r ≡ number_up_to most w
number_parsed most w r fits h p =
    let parts = parts_of_number most w h in
    let some = some_digits w parts.0 in
    let small : digits_value 10 w < 2 ^ 32 = omega (arith, leb-true (digits_value 10 w) most parts.1) in
    rw (parse_gives digits 32 w r p some.1 some.0 small, parts.0, parts.1) refl
