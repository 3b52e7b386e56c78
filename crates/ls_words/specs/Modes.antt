-- What the words after the program's name ask for. An option and its value are two words,
-- the value directly after the option; the word after an option is its value whatever it is.
use Rattle.std.specs.Prelude.{ℕ, ◌<◌, ◌≤◌, ◌&&◌, if◌then◌else◌, List, [], ◌∷◌, bytes_eq, codes}
use Rattle.std.specs.Prelude.{Option, Some, None, ⊤}
use Rattle.ls_cutting.specs.{Text, greatest_number, is_file, is_from_to, number_up_to}
use Rattle.ls_words.specs.declared.mode.Mode.{Mode}
use Rattle.ls_words.specs.declared.mode.Mode.TheVariants.{Input, File, Drill}

-- the script that the named file has, where the word is the name of a file
abbrev pub file : Text → Option Mode
file name = if is_file name then Some (File name) else None

-- the number that a word is, in decimal without a leading zero, where it is at most the greatest
abbrev pub read_number : Text → Option ℕ
read_number word = number_up_to greatest_number word

-- the most items that a drill has
abbrev pub most_drilled : ℕ
most_drilled = 48

-- the drill on n items with a number, where there is at least one item and not more than the most
abbrev pub drill : Option ℕ → Option ℕ → Option Mode
drill (Some n) (Some number) = if is_from_to 1 most_drilled n then Some (Drill n number) else None
drill n number = None

-- what one option and its value ask for: `--script NAME`, or `--drill N`, whose number is then 1
abbrev pub mode_of_option : Text → Text → Option Mode
mode_of_option option value =
    if bytes_eq option (codes "--script") then file value
    else if bytes_eq option (codes "--drill") then drill (read_number value) (Some 1)
    else None

-- what two options and their values ask for: `--drill N` and `--number S`, in either order
abbrev pub mode_of_options : Text → Text → Text → Text → Option Mode
mode_of_options first value second other =
    if bytes_eq first (codes "--drill") && bytes_eq second (codes "--number")
    then drill (read_number value) (read_number other)
    else if bytes_eq first (codes "--number") && bytes_eq second (codes "--drill")
    then drill (read_number other) (read_number value)
    else None

-- what the words ask for, if they have a form: no word, one option with its value, or two
unfoldable pub mode_of : List Text → Option Mode
mode_of [] = Some Input
mode_of (option ∷ value ∷ []) = mode_of_option option value
mode_of (first ∷ value ∷ second ∷ other ∷ []) = mode_of_options first value second other
mode_of words = None

-- the numbers of a drill are in their ranges
abbrev pub IsInRange : Mode → Type 0
IsInRange (Drill n number) = (0 < n) × (n ≤ most_drilled) × (number ≤ greatest_number)
IsInRange mode = ⊤
