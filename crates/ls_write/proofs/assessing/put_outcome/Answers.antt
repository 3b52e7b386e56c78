use Rattle.ls_write.proofs.Vocabulary.{◌∷◌, [], set_text}
use Rattle.ls_room.proofs.Saying.{says_as, says_nothing, says_then}
use Rattle.ls_room.proofs.LineBytes.{line-outcome}
use Rattle.ls_write.proofs.assessing.put_outcome.Goals as goal

pub returns : goal.returns
returns g c =
    let o = c.args.outcome in
    let replies = says_then (says_then c.space-3.ensures c.put_number-3.ensures) (says_nothing _ _ _) in
    let total = says_then (says_then c.space-2.ensures c.put_number-2.ensures) replies in
    let numbers = says_then (says_then c.space.ensures c.put_number.ensures) total in
    says_as (line-outcome (set_text c.args.texts.now o.state) (o.weight ∷ o.total ∷ o.replies ∷ []))
    (says_then (says_then (says_then c.put.ensures.says c.put_set.ensures) numbers) c.end_line.ensures)
