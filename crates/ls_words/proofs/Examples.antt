-- Examples: the forms, and words that have none.
use Rattle.std.proofs.Common.{◌≡◌, refl, [], ◌∷◌, Some, None, codes, replicate}
use Rattle.ls_words.specs.Modes.{mode_of}
use Rattle.ls_words.specs.declared.mode.Mode.TheVariants.{Input, File, Drill}

no_words : mode_of [] ≡ Some Input
unfolding mode_of
no_words = refl

script : mode_of (codes "--script" ∷ codes "run.txt" ∷ []) ≡ Some (File (codes "run.txt"))
unfolding mode_of
script = refl

-- the word after an option is its value, also where it begins with `-`
script_named_as_option : mode_of (codes "--script" ∷ codes "--drill" ∷ []) ≡ Some (File (codes "--drill"))
unfolding mode_of
script_named_as_option = refl

-- without a number it is 1
drill_alone : mode_of (codes "--drill" ∷ codes "48" ∷ []) ≡ Some (Drill 48 1)
unfolding mode_of
drill_alone = refl

number_behind : mode_of (codes "--drill" ∷ codes "1" ∷ codes "--number" ∷ codes "999999999" ∷ []) ≡ Some (Drill 1 999999999)
unfolding mode_of
number_behind = refl

number_before : mode_of (codes "--number" ∷ codes "0" ∷ codes "--drill" ∷ codes "7" ∷ []) ≡ Some (Drill 7 0)
unfolding mode_of
number_before = refl

-- what has no form
hidden_file : mode_of (codes "--script" ∷ codes ".run" ∷ []) ≡ None
unfolding mode_of
hidden_file = refl

file_in_folder : mode_of (codes "--script" ∷ codes "a/b" ∷ []) ≡ None
unfolding mode_of
file_in_folder = refl

no_file : mode_of (codes "--script" ∷ []) ≡ None
unfolding mode_of
no_file = refl

empty_file : mode_of (codes "--script" ∷ [] ∷ []) ≡ None
unfolding mode_of
empty_file = refl

long_file : mode_of (codes "--script" ∷ replicate 65 97 ∷ []) ≡ None
unfolding mode_of
long_file = refl

joined_value : mode_of (codes "--script=run.txt" ∷ []) ≡ None
unfolding mode_of
joined_value = refl

too_many_items : mode_of (codes "--drill" ∷ codes "49" ∷ []) ≡ None
unfolding mode_of
too_many_items = refl

no_items : mode_of (codes "--drill" ∷ codes "0" ∷ []) ≡ None
unfolding mode_of
no_items = refl

leading_zero : mode_of (codes "--drill" ∷ codes "07" ∷ []) ≡ None
unfolding mode_of
leading_zero = refl

number_with_leading_zero : mode_of (codes "--drill" ∷ codes "7" ∷ codes "--number" ∷ codes "01" ∷ []) ≡ None
unfolding mode_of
number_with_leading_zero = refl

great_number : mode_of (codes "--drill" ∷ codes "7" ∷ codes "--number" ∷ codes "1000000000" ∷ []) ≡ None
unfolding mode_of
great_number = refl

number_alone : mode_of (codes "--number" ∷ codes "5" ∷ []) ≡ None
unfolding mode_of
number_alone = refl

number_with_script : mode_of (codes "--script" ∷ codes "run.txt" ∷ codes "--number" ∷ codes "5" ∷ []) ≡ None
unfolding mode_of
number_with_script = refl

value_before_option : mode_of (codes "7" ∷ codes "--drill" ∷ []) ≡ None
unfolding mode_of
value_before_option = refl

options_before_values : mode_of (codes "--drill" ∷ codes "--number" ∷ codes "7" ∷ codes "5" ∷ []) ≡ None
unfolding mode_of
options_before_values = refl

drill_twice : mode_of (codes "--drill" ∷ codes "7" ∷ codes "--drill" ∷ codes "7" ∷ []) ≡ None
unfolding mode_of
drill_twice = refl

number_without_value : mode_of (codes "--drill" ∷ codes "7" ∷ codes "--number" ∷ []) ≡ None
unfolding mode_of
number_without_value = refl

word_too_many : mode_of (codes "--drill" ∷ codes "7" ∷ codes "--number" ∷ codes "5" ∷ codes "x" ∷ []) ≡ None
unfolding mode_of
word_too_many = refl
