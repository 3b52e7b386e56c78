-- What is read of a line in one pass over its words.
use Rattle.std.specs.Prelude.{ℕ, ◌+◌, Bool, true, false, ◌==◌}
use Rattle.std.specs.Prelude.{List, [], ◌∷◌, drop, filter, slice_index, slice_index_or}
use Rattle.std.specs.Option.{option_map_or}
use Rattle.ls_cutting.specs.Lines.{Text}
use Rattle.ls_lines.specs.Spelling.{spelling}
use Rattle.ls_lines.specs.Forms.{parts, forms}
use Rattle.ls_lines.specs.Commands.{front}
use Rattle.ls_lines.specs.declared.form.Form.{Form}
use Rattle.ls_lines.specs.declared.part.Part.{Part}
use Rattle.ls_lines.specs.declared.part.Part.TheVariants.{Fixed}

-- the first byte of the first word
abbrev pub initial : List Text → ℕ
initial ws = slice_index (slice_index_or ws 0 []) 0

-- whether a line of the parts may begin with a word of this first byte
abbrev pub may_begin : ℕ → List Part → Bool
may_begin b [] = false
may_begin b (Fixed keyword ∷ ps) = slice_index (spelling keyword) 0 == b
may_begin b (part ∷ ps) = true

-- the forms of the lines that may begin with such a word
abbrev pub forms_from : ℕ → List Form
forms_from b = filter (λ f. may_begin b (parts f)) forms

-- how many words at the front some line of the form begins with
unfoldable pub begun_length : List Part → List Text → ℕ
begun_length [] ws = 0
begun_length (part ∷ ps) ws = option_map_or (λ m. m + begun_length ps (drop m ws)) (front part ws) 0
