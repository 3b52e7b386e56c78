pub mod Lines
pub mod WordTexts
pub mod Numbers
pub mod Kinds
pub mod Cutting
pub mod CutterParts
pub use Rattle.ls_cutting.specs.Cutting.{Ends, Holds, IsTaken, ahead, ended_of, kept}
pub use Rattle.ls_cutting.specs.Kinds.{greatest_number, is_file, is_from_to, is_name_byte}
unfoldable pub use Rattle.ls_cutting.specs.Kinds.{is_of}
pub use Rattle.ls_cutting.specs.Lines.{Text, is_blank, is_long, is_note, longest_line}
pub use Rattle.ls_cutting.specs.Lines.{parts_words, without_return, words_joined}
unfoldable pub use Rattle.ls_cutting.specs.Lines.{lines, words}
pub use Rattle.ls_cutting.specs.Numbers.{is_decimal, number_up_to}
