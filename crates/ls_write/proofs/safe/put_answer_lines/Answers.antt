use Rattle.ls_origins.specs.declared.safe_answer.SafeAnswer.{SafeAnswer}
use Rattle.ls_write.proofs.Vocabulary.{◌++◌, ◌<◌, ◌∙◌, ◌≤◌, ap, arith, length, line_bytes, lines_bytes, map}
use Rattle.ls_write.proofs.Vocabulary.{safe_line, take, take_all}
use Rattle.ls_room.proofs.Saying.{says_as, says_nothing, says_then}
use Rattle.ls_room.proofs.LineBytes.{lines-next}
use Rattle.ls_write.proofs.safe.put_answer_lines.Goals as goal

pub loop-answer-init : goal.loop-answer-init
loop-answer-init g c = says_nothing _ _ _

pub loop-answer-preserved : goal.loop-answer-preserved
loop-answer-preserved g c =
    let test : c.loop-answer.answer-index < length c.args.list.now = omega arith in
    says_as
    (ap
    (λ (a : SafeAnswer). lines_bytes (map safe_line (take c.loop-answer.answer-index c.args.list.now))
    ++ line_bytes (safe_line a))
    c.answer-item.is
    ∙ lines-next safe_line c.args.list.now c.loop-answer.answer-index _ test)
    (says_then c.loop-answer.invariant c.put_answer.ensures)

pub returns : goal.returns
returns g c =
    let test : length c.args.list.now ≤ c.loop-answer.answer-index = omega arith in
    says_as
    (ap (λ l. lines_bytes (map safe_line l)) (take_all c.loop-answer.answer-index c.args.list.now test))
    c.loop-answer.invariant
