use Rattle.ls_cutting.proofs.Vocabulary.{◌∙◌, ap, is_note, sym}
use Rattle.ls_cutting.proofs.Runs.{words-note}
use Rattle.ls_cutting.proofs.token.is_note.Goals as goal

pub returns : goal.returns
returns c =
    let note = c.begins_note.ensures ∙ ap is_note c.without_return.ensures in
    record { note = note; silent = λ is. words-note c.args.line.now (sym note ∙ is) }
