-- The text of a word.
use Rattle.std.specs.Prelude.{List, ℕ, string_bytes}
use Rattle.ls_cutting.specs.declared.word_text.WordText.{WordText}
use Rattle.ls_cutting.specs.declared.word_text.WordText.TheVariants.{Short, Long}

-- the bytes of the text, wherever they lie
abbrev pub text_bytes : WordText → List ℕ
text_bytes (Short t) = t.bytes
text_bytes (Long t) = string_bytes t
