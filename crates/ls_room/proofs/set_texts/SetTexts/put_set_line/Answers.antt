use Rattle.ls_room.proofs.Vocabulary.{◌∙◌, ap, cursor, length, take}
use Rattle.ls_room.proofs.Saying.{says_as, says_then}
use Rattle.ls_room.proofs.LineBytes.{line-set}
use Rattle.ls_room.proofs.set_texts.SetTexts.put_set_line.Goals as goal

pub returns : goal.returns
returns g c =
    let n = c.count-n.ensures.value ∙ ap length c.self.view_is in
    let digits = ap (λ m. take m c.write_digits.new.digits) c.cursor_length.ensures ∙ c.write_digits.ensures ∙ ap (λ n. cursor n c.args.s) n in
    says_as (line-set c.args.self.now c.args.s (take c.cursor_length.result c.write_digits.new.digits) digits)
    (says_then (says_then (says_then (says_then c.put.ensures.says c.put_front.ensures) c.put-2.ensures.says) c.put_names.ensures) c.put-3.ensures.says)
