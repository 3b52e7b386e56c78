use Rattle.ls_write.proofs.Vocabulary.{◌∙◌, ◌∷◌, BaseVerdict, [], ap, arith, codes, learning_line, line_bytes, sym}
use Rattle.ls_meaning.specs.Lines.{double_words}
use Rattle.ls_room.proofs.Saying.{says_as, says_then}
use Rattle.ls_room.proofs.LineBytes.{line-ended}
use Rattle.ls_write.proofs.judging.put_learning.Goals as goal

pub returns-in-NotGraded : goal.returns-in-NotGraded
returns-in-NotGraded g c =
    let w = c.in-NotGraded in
    let names = c.args.texts.now in
    says_as
    (line-ended (codes "learning" ∷ codes "no" ∷ []) (double_words names w.set w.first w.second) (omega arith)
    ∙ ap (λ (v : BaseVerdict). line_bytes (learning_line names v)) (sym w.is))
    (says_then c.put.ensures.says c.put_double.ensures)
