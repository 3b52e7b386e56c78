use Rattle.ls_room.proofs.Saying.{says_as}
use Rattle.ls_write.proofs.SkillQuotes.{quotes-skill}
use Rattle.ls_write.proofs.skills.put_skill.Goals as goal

pub returns : goal.returns
returns g c =
    says_as
    (quotes-skill c.args.number _ _ _ _ c.digit.ensures c.digit-2.ensures c.digit-3.ensures
    c.digit-4.ensures) c.put.ensures.says
