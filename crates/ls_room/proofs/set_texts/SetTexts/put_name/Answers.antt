use Rattle.ls_room.proofs.Vocabulary.{◌∙◌, ◌∷◌, ap, name_of}
use Rattle.ls_room.proofs.Saying.{says_as, says_then}
use Rattle.ls_room.proofs.set_texts.SetTexts.put_name.Goals as goal

pub returns : goal.returns
returns g c =
    let name = c.as_bytes.ensures.value ∙ c.name.ensures ∙ ap (λ ns. name_of ns c.args.item) c.self.view_is in
    says_as (ap (λ w. 32 ∷ w) name) (says_then c.space.ensures c.put.ensures.says)
