-- Decimal numbers.
use Rattle.std.specs.Prelude.{ℕ, Bool, not, ◌&&◌, ◌||◌, ◌==◌, nat_lt, nat_le, if◌then◌else◌}
use Rattle.std.specs.Prelude.{length, slice_index, Option, Some, None}
use Rattle.std.specs.List.{list_all}
use Rattle.std.specs.Str.Parse.{digits_value}
use Rattle.ls_cutting.specs.Lines.{Text}

abbrev pub is_digit : ℕ → Bool
is_digit b = nat_le 48 b && nat_le b 57

-- digits, the first of which is not `0` unless it stands alone
abbrev pub is_decimal : Text → Bool
is_decimal w =
    nat_lt 0 (length w) && list_all is_digit w && (length w == 1 || not (slice_index w 0 == 48))

-- the number that the word is in decimal without a leading zero, where it is at most the given one
abbrev pub number_up_to : ℕ → Text → Option ℕ
number_up_to most w =
    if is_decimal w && nat_le (digits_value 10 w) most then Some (digits_value 10 w) else None
