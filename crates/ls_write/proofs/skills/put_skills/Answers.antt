use Rattle.ls_write.proofs.Vocabulary.{◌++◌, ◌<◌, ◌∙◌, All, ap, base_skills, codes, false, listed}
use Rattle.ls_write.proofs.Vocabulary.{skills_row_text, subst, sym}
use Rattle.ls_set.specs.declared.item_set.TheConstants.{PLACES}
use Rattle.ls_room.proofs.Saying.{says_as, says_then}
use Rattle.ls_room.proofs.NameOrder.{items-few}
use Rattle.ls_write.proofs.SkillTexts.{line-skills}
use Rattle.ls_write.proofs.skills.put_skills.Goals as goal

pub put_rows-requires : goal.put_rows-requires
put_rows-requires g c =
    subst (All (λ i. i < PLACES)) (sym c.by_name.ensures.order)
    (items-few c.args.texts.now PLACES c.by_name.ensures.domain.are_names.few)

pub returns : goal.returns
returns g c =
    let names = c.args.texts.now in
    let sets = c.args.sets.now in
    says_as
    (ap
    (λ is.
    (codes "skills {" ++ listed (skills_row_text names (base_skills sets)) false is)
    ++ codes "}\n") c.by_name.ensures.order ∙ line-skills names sets c.by_name.ensures.domain)
    (says_then (says_then c.put.ensures.says c.put_rows.ensures) c.put-2.ensures.says)
