use Rattle.ls_write.proofs.Vocabulary.{◌++◌, ◌∙◌, ◌∷◌, [], ap, codes, decimal}
use Rattle.ls_room.proofs.Saying.{says_as, says_then}
use Rattle.ls_room.proofs.LineBytes.{line-answered}
use Rattle.ls_write.proofs.safe.put_answer.Goals as goal

pub returns : goal.returns
returns g c =
    let number = decimal c.args.answer.number in
    says_as
    (ap (λ mark. (((codes "answer " ++ number) ++ 32 ∷ []) ++ mark) ++ 10 ∷ []) c.mark.ensures
    ∙ line-answered number _)
    (says_then
    (says_then
    (says_then (says_then c.put.ensures.says c.put_number.ensures) c.space.ensures)
    c.put-2.ensures.says)
    c.end_line.ensures)
