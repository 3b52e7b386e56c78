use Rattle.std.proofs.Common.{◌∙◌, ap, length, subst, sym}
use Rattle.ls_cutting.specs.Lines.{runs}
use Rattle.ls_cutting.proofs.Runs.{words-note, words-runs}
use Rattle.ls_order.specs.Words.{line_worded}
use Rattle.ls_order.proofs.PairItems.{IsSmall, line-worded, worded-small}
use Rattle.ls_order.proofs.reading.read_line.Goals as goal

pub returns-then-is_note-clause-read : goal.returns-then-is_note-clause-read
returns-then-is_note-clause-read c =
    let names = c.args.d.now in
    let line = c.args.line.now in
    sym (line-worded names line ∙ ap (line_worded names)
    (words-note line (sym c.is_note.ensures.note ∙ c.if-is_note.true)))

pub returns-clause-read : goal.returns-clause-read
returns-clause-read c =
    let names = c.args.d.now in
    let line = c.args.line.now in
    c.read_body.ensures
    ∙ ap (line_worded names) (ap runs c.without_return.ensures
    ∙ sym (words-runs line (sym c.is_note.ensures.note ∙ c.if-is_note.false)))
    ∙ sym (line-worded names line)

pub returns-clause-items : goal.returns-clause-items
returns-clause-items c =
    subst (IsSmall (length c.args.d.now)) (sym c.read_body.ensures)
    (worded-small c.args.d.now (runs c.without_return.result.now))
