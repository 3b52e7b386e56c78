-- What stands at the parts of a form, which are counted from 0.
use Rattle.std.specs.Prelude.{ℕ, Bool, List, [], slice_index_or, bytes_eq, codes, unwrap_or}
use Rattle.ls_cutting.specs.Lines.{Text}
use Rattle.ls_cutting.specs.Numbers.{number_up_to}
use Rattle.ls_cutting.specs.Kinds.{most_counted, greatest_number}

-- the words
abbrev pub all : List (List Text) → ℕ → List Text
all given place = slice_index_or given place []

-- the one word
abbrev pub one : List (List Text) → ℕ → Text
one given place = slice_index_or (all given place) 0 []

-- the number of the one word, which is a count or any number
abbrev pub count : List (List Text) → ℕ → ℕ
count given place = unwrap_or (number_up_to most_counted (one given place)) 0

abbrev pub number : List (List Text) → ℕ → ℕ
number given place = unwrap_or (number_up_to greatest_number (one given place)) 0

-- whether the one word is `right`
abbrev pub is_right : List (List Text) → ℕ → Bool
is_right given place = bytes_eq (one given place) (codes "right")
