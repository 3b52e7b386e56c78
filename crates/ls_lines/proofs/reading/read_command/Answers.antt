use Rattle.ls_lines.proofs.Vocabulary.{◌∙◌, [], ap, refl, runs, sym}
use Rattle.ls_lines.proofs.Choosing.{no_words}
use Rattle.ls_cutting.proofs.Runs.{words-runs}
use Rattle.ls_lines.proofs.reading.read_command.Goals as goal

pub returns-then-is_note-clause-read : goal.returns-then-is_note-clause-read
returns-then-is_note-clause-read c = rw (c.is_note.ensures.silent c.if-is_note.true) (sym (no_words [] refl))

pub returns-clause-read : goal.returns-clause-read
returns-clause-read c =
    let same = words-runs c.args.line.now (sym c.is_note.ensures.note ∙ c.if-is_note.false) ∙ ap runs (sym c.without_return.ensures) in
    rw same c.read_runs.ensures.read

pub returns-clause-shape : goal.returns-clause-shape
returns-clause-shape c =
    let same = words-runs c.args.line.now (sym c.is_note.ensures.note ∙ c.if-is_note.false) ∙ ap runs (sym c.without_return.ensures) in
    rw same c.read_runs.ensures.shape
