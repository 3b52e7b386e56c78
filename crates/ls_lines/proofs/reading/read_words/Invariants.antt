use Rattle.ls_lines.proofs.Vocabulary.{◌≡◌, command_of}
use Rattle.ls_lines.proofs.Initials.{read_from}
use Rattle.ls_lines.proofs.reading.read_words.Given as goal

abbrev pub invariant-loop-form : goal.invariant-loop-form
invariant-loop-form l = record {
  value : read_from l.forms l.form-index l.words ≡ command_of l.words;
}
