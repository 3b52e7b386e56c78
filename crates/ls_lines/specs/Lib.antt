pub mod Spelling
pub mod Given
pub mod Forms
pub mod Commands
pub mod Printing
pub mod Operands
pub mod Grammar
pub mod Reading
pub use Rattle.ls_cutting.specs.{Ends, Holds, IsTaken, Text, ahead, ended_of, greatest_number}
pub use Rattle.ls_cutting.specs.{is_blank, is_decimal, is_file, is_from_to, is_long, is_name_byte}
pub use Rattle.ls_cutting.specs.{is_note, kept, longest_line, number_up_to, parts_words}
pub use Rattle.ls_cutting.specs.{without_return, words_joined}
unfoldable pub use Rattle.ls_cutting.specs.{is_of, lines, words}
pub use Rattle.ls_lines.specs.Commands.{front}
unfoldable pub use Rattle.ls_lines.specs.Commands.{command_of, cut, fault_place, is_begun}
pub use Rattle.ls_lines.specs.Forms.{pupil_name}
unfoldable pub use Rattle.ls_lines.specs.Forms.{command, forms, parts, spelled_as}
pub use Rattle.ls_lines.specs.Given.{one}
unfoldable pub use Rattle.ls_lines.specs.Printing.{is_plain, laid_out, spelled}
unfoldable pub use Rattle.ls_lines.specs.Spelling.{spelling}
