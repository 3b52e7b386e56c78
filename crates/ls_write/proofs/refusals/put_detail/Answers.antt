use Rattle.ls_write.proofs.Vocabulary.{◌∙◌, ◌∷◌, [], ap, detail_of, detail_word, names_in, names_of_set, option_copied, sym}
use Rattle.ls_meaning.specs.declared.notices.Detail.{Detail}
use Rattle.ls_room.proofs.Saying.{says_as}
use Rattle.ls_write.proofs.refusals.put_detail.Goals as goal

-- a set has no names where no domain stands
pub returns-in-None-texts : goal.returns-in-None-texts
unfolding names_of_set
returns-in-None-texts g c =
    says_as (ap (λ (d : Detail). 32 ∷ detail_word [] (detail_of d)) (sym c.in-Set.is) ∙ ap (λ o. 32 ∷ detail_word (names_in (option_copied o)) (detail_of c.args.detail.now)) (sym c.in-None-texts.is))
    c.put-in-None-texts.ensures.says
