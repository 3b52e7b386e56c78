use Rattle.std.proofs.Common.{◌<◌, ◌∙◌, ap, arith, length, sym}
use Rattle.ls_skill.specs.Maps.{skills_seen}
use Rattle.ls_skill.proofs.Entries.{seen-place}
use Rattle.ls_skill.proofs.skill_map.SkillMap.items_of.Goals as goal

pub returns : goal.returns
returns c =
    let skills = c.self.inside.skills.items in
    let small : c.args.place < length (skills_seen skills) =
    omega (arith, c.requires, ap (λ m. length m.skills) c.self.view_is) in
    rw (← c.self.view_is)
    (ap (λ s. s.1) c.index.ensures ∙ sym (seen-place skills c.args.place c.index.result.now small))
