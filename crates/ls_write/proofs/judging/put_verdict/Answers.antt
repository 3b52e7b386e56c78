use Rattle.ls_write.proofs.Vocabulary.{◌∙◌, ◌∷◌, [], ap, arith, codes, line_bytes, set_text, sym, verdict_line}
use Rattle.ls_theory.specs.declared.verdict.Verdict.{Verdict}
use Rattle.ls_meaning.specs.Lines.{double_words}
use Rattle.ls_room.proofs.Saying.{says_as, says_then}
use Rattle.ls_room.proofs.LineBytes.{line-ended, line-not_closed}
use Rattle.ls_write.proofs.judging.put_verdict.Goals as goal

pub returns-in-NotClosed : goal.returns-in-NotClosed
returns-in-NotClosed g c =
    let w = c.in-NotClosed in
    let names = c.args.texts.now in
    says_as
    (line-not_closed (set_text names w.left) (set_text names w.right) ∙ ap (λ (v : Verdict). line_bytes (verdict_line names v)) (sym w.is))
    (says_then (says_then (says_then c.put.ensures.says c.put_set.ensures) c.put_set-in-NotClosed.ensures) c.end_line.ensures)

pub returns-in-NotGraded : goal.returns-in-NotGraded
returns-in-NotGraded g c =
    let w = c.in-NotGraded in
    let names = c.args.texts.now in
    says_as
    (line-ended (codes "test" ∷ codes "not-graded" ∷ []) (double_words names w.set w.first w.second) (omega arith)
    ∙ ap (λ (v : Verdict). line_bytes (verdict_line names v)) (sym w.is))
    (says_then c.put-in-NotGraded.ensures.says c.put_double.ensures)
