use Rattle.ls_write.proofs.Vocabulary.{◌++◌, ◌∙◌, ◌∷◌, ◌≡◌, Text, [], ap₂, codes, decimal, reason_word, set_text}
use Rattle.ls_room.proofs.Saying.{says_as, says_then}
use Rattle.ls_room.proofs.LineBytes.{line-result}
use Rattle.ls_write.proofs.classes.put_result.Goals as goal

pub returns : goal.returns
returns g c =
    let r = c.args.known.now in
    let set = set_text c.args.texts.now r.state in
    let name : c.as_bytes.result.now ≡ r.name = c.as_bytes.ensures.value ∙ c.as_str.ensures in
    says_as
    (ap₂ (λ (n w : Text). ((((((codes "result " ++ n) ++ 32 ∷ []) ++ decimal r.replies) ++ 32 ∷ []) ++ w) ++ 32 ∷ set) ++ 10 ∷ []) name (c.as_bytes-2.ensures.value ∙ c.reason_word.ensures)
    ∙ line-result r.name (decimal r.replies) (reason_word r.reason) set)
    (says_then (says_then (says_then (says_then (says_then (says_then (says_then c.put.ensures.says c.put-2.ensures.says) c.space.ensures) c.put_number.ensures) c.space-2.ensures) c.put-3.ensures.says) c.put_set.ensures) c.end_line.ensures)
