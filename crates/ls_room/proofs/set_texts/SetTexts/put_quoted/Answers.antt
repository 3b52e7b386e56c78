use Rattle.ls_room.proofs.Vocabulary.{◌∙◌, ap, quoted_name}
use Rattle.ls_room.proofs.Saying.{says_as, says_then}
use Rattle.ls_room.proofs.Quotes.{quotes}
use Rattle.ls_room.proofs.set_texts.SetTexts.put_quoted.Goals as goal

pub returns : goal.returns
returns g c =
    says_as (quotes c.self.inside.domain c.args.item _ c.self.invariant.2 (c.as_bytes.ensures.value ∙ c.name.ensures) ∙ ap (λ l. quoted_name l c.args.item) c.self.view_is)
    (says_then (says_then c.put.ensures.says c.put-2.ensures.says) c.put-3.ensures.says)
