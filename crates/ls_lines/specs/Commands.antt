-- Reading the words of a line as a command, and the place of a fault: both by the table of forms.
use Rattle.std.specs.Prelude.{ℕ, zero, suc, Bool, true, false, not, if◌then◌else◌, bytes_eq}
use Rattle.std.specs.Prelude.{List, [], ◌∷◌, length, take, drop, filter_map, slice_get}
use Rattle.std.specs.Prelude.{Option, Some, None, option_map}
use Rattle.std.specs.List.{list_any, prefix_len}
use Rattle.std.specs.Option.{option_map_or, option_and_then}
use Rattle.ls_cutting.specs.Lines.{Text}
use Rattle.ls_cutting.specs.Kinds.{is_of}
use Rattle.ls_lines.specs.Spelling.{spelling}
use Rattle.ls_lines.specs.Forms.{parts, command, forms}
use Rattle.ls_lines.specs.declared.part.Part.{Part}
use Rattle.ls_lines.specs.declared.part.Part.TheVariants.{Fixed, One, Many}
use Rattle.ls_lines.specs.declared.command.Command.{Command}
use Rattle.ls_lines.specs.declared.command.Command.TheVariants.{File, View, Safe}
use Rattle.ls_lines.specs.declared.file.FileCommand.TheVariants.{SkillsAny, SkillsAll, Mesh}
use Rattle.ls_lines.specs.declared.view.ViewCommand.TheVariants.{States, Project, Paths}
use Rattle.ls_lines.specs.declared.safe.SafeCommand.TheVariants as safes

-- whether the word can stand at the part
abbrev pub fits : Part → Text → Bool
fits (Fixed keyword) w = bytes_eq (spelling keyword) w
fits (One kind) w = is_of kind w
fits (Many kind) w = is_of kind w

-- how many words at the front stand at the part; `Many` takes all that can
abbrev pub front : Part → List Text → Option ℕ
front (Many kind) ws = Some (prefix_len (is_of kind) ws)
front part [] = None
front part (w ∷ ws) = if fits part w then Some 1 else None

-- what stands at each of the parts, where the words are a line of the form
unfoldable pub cut : List Part → List Text → Option (List (List Text))
cut [] [] = Some []
cut [] (w ∷ ws) = None
cut (part ∷ ps) ws =
    option_and_then (λ m. option_map (λ given. take m ws ∷ given) (cut ps (drop m ws)))
    (front part ws)

-- whether some line of the form begins with the words
unfoldable pub is_begun : List Part → List Text → Bool
is_begun ps [] = true
is_begun [] (w ∷ ws) = false
is_begun (part ∷ ps) ws = option_map_or (λ m. is_begun ps (drop m ws)) (front part ws) false

-- the command that the words are, if they are one
unfoldable pub command_of : List Text → Option Command
command_of ws = slice_get (filter_map (λ f. option_map (command f) (cut (parts f) ws)) forms) 0

-- the count of the command, where it has one
abbrev pub count_of : Command → Option ℕ
count_of (View (States count after)) = Some count
count_of (View (Project count after names)) = Some count
count_of (View (Paths count after)) = Some count
count_of (File (SkillsAny file count after)) = Some count
count_of (File (SkillsAll file count after)) = Some count
count_of (File (Mesh left right count after)) = Some count
count_of (Safe (safes.States count after)) = Some count
count_of c = None

-- whether some command begins with the words
abbrev pub begins_command : List Text → Bool
begins_command ws = list_any (λ f. is_begun (parts f) ws) forms

-- the least of m numbers from i on that passes, or the one after them
abbrev pub least_from : (ℕ → Bool) → ℕ → ℕ → ℕ
least_from p i zero = i
least_from p i (suc m) = if p i then i else least_from p (suc i) m

-- the place of a fault: the least p such that no command begins with the first p words;
-- one more than the number of words where the whole line begins some command
unfoldable pub fault_place : List Text → ℕ
fault_place ws = least_from (λ p. not (begins_command (take p ws))) 1 (length ws)
