use Rattle.ls_write.proofs.Vocabulary.{◌++◌, ◌∙◌, ◌∷◌, [], ap, fringes_line, line_bytes, outcome_line}
use Rattle.ls_room.proofs.Saying.{says_as, says_then}
use Rattle.ls_room.proofs.LineBytes.{lines-one, lines-last}
use Rattle.ls_write.proofs.assessing.put_report.Goals as goal

pub returns : goal.returns
returns g c =
    let names = c.args.texts.now in
    says_as
    (ap (λ l. l ++ line_bytes (fringes_line names c.args.fringes)) (lines-one (outcome_line names c.args.outcome))
    ∙ lines-last (outcome_line names c.args.outcome ∷ []) (fringes_line names c.args.fringes))
    (says_then c.put_outcome.ensures c.put_fringes.ensures)
