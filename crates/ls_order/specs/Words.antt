-- A line of a file of pairs, word by word.
use Rattle.std.specs.Prelude.{ℕ, ◌==◌, if◌then◌else◌, List, length, Option, Some}
use Rattle.ls_cutting.specs.{Text}
use Rattle.ls_domain.specs.Domains.{is_name}
use Rattle.ls_domain.specs.Meanings.{number_of}
use Rattle.ls_files.specs.PairFiles.{pair_named}
use Rattle.ls_files.specs.declared.pair_line.PairLine.{PairLine}
use Rattle.ls_files.specs.declared.pair_line.PairLine.TheVariants as line
use Rattle.ls_order.specs.declared.met.Met.{Met}
use Rattle.ls_order.specs.declared.met.Met.TheVariants.{Nothing, One, Two, Bad}

-- with one name more
abbrev pub with_name : Option ℕ → Met → Met
with_name item Nothing = One item
with_name item (One low) = Two low item
with_name item (Two low high) = Bad
with_name item Bad = Bad

-- with one word more
abbrev pub with_word : List Text → Met → Text → Met
with_word names met w = if is_name w then with_name (number_of names w) met else Bad

abbrev pub pair_met : Option ℕ → Option ℕ → PairLine
pair_met (Some low) (Some high) = line.Pair low high
pair_met low high = line.Unknown

-- what a line is with these words
abbrev pub line_met : Met → PairLine
line_met Nothing = line.Passed
line_met (One low) = line.Bad
line_met (Two low high) = pair_met low high
line_met Bad = line.Bad

-- the same by all words
abbrev pub line_worded : List Text → List Text → PairLine
line_worded names ws = if length ws == 0 then line.Passed else pair_named names ws
