-- The kinds of words that a command takes.
use Rattle.std.specs.Prelude.{ℕ, Bool, not, ◌&&◌, ◌||◌, ◌==◌, nat_lt, nat_le, is_some}
use Rattle.std.specs.Prelude.{length, slice_index, bytes_eq, codes}
use Rattle.std.specs.List.{list_all}
use Rattle.ls_cutting.specs.Lines.{Text}
use Rattle.ls_cutting.specs.Numbers.{number_up_to}
use Rattle.ls_cutting.specs.declared.kind.Kind.{Kind}
use Rattle.ls_cutting.specs.declared.kind.Kind.TheVariants.{Name, Item, File, Count, Number}
use Rattle.ls_cutting.specs.declared.kind.Kind.TheVariants.{Cursor, Right}

abbrev pub is_from_to : ℕ → ℕ → ℕ → Bool
is_from_to low high b = nat_le low b && nat_le b high

-- a letter, a digit, `_`, `-` or `.`
abbrev pub is_name_byte : ℕ → Bool
is_name_byte b =
    is_from_to 65 90 b || is_from_to 97 122 b || is_from_to 48 57 b
    || b == 95 || b == 45 || b == 46

-- from one to the given number of such bytes
abbrev pub is_name_up_to : ℕ → Text → Bool
is_name_up_to most w = is_from_to 1 most (length w) && list_all is_name_byte w

-- the most bytes that a name has, and those that a file's name has
abbrev pub longest_name : ℕ
longest_name = 40

abbrev pub longest_file_name : ℕ
longest_file_name = 64

-- the name of a file: at most so many such bytes, the first of which is no `.`
abbrev pub is_file : Text → Bool
is_file w = is_name_up_to longest_file_name w && not (slice_index w 0 == 46)

-- from `!` to `~`, and no comma, colon or bar
abbrev pub is_cursor_byte : ℕ → Bool
is_cursor_byte b = is_from_to 33 126 b && not (b == 44 || b == 58 || b == 124)

abbrev pub is_cursor : Text → Bool
is_cursor w = nat_lt 0 (length w) && list_all is_cursor_byte w

-- the most sets or paths that one page has
abbrev pub most_counted : ℕ
most_counted = 65536

-- the greatest number
abbrev pub greatest_number : ℕ
greatest_number = 999999999

-- whether the word is of the kind; an item's name is a name
unfoldable pub is_of : Kind → Text → Bool
is_of Name w = is_name_up_to longest_name w
is_of Item w = is_name_up_to longest_name w
is_of File w = is_file w
is_of Count w = is_some (number_up_to most_counted w)
is_of Number w = is_some (number_up_to greatest_number w)
is_of Cursor w = is_cursor w
is_of Right w = bytes_eq w (codes "right") || bytes_eq w (codes "wrong")
