use Rattle.std.proofs.Common.{◌≡◌, ◌∙◌, List, ap, map, subst, sym}
use Rattle.std.proofs.lemmas.List.{take_all}
use Rattle.ls_set.specs.ItemSet.{Items}
use Rattle.ls_laws.specs.Spans.{AreOn}
use Rattle.ls_files.specs.SkillFiles.{item_sets}
use Rattle.ls_skill.specs.Maps.{skills_seen}
use Rattle.ls_skill.proofs.Entries.{seen-sets}
use Rattle.ls_skill.proofs.OfBases.{based-sets, based-family}
use Rattle.ls_skill.proofs.skill_map.SkillMap.to_base.Goals as goal

-- what was gathered are the sets of the skills
pub spanned_by-requires-clause-is_on : goal.spanned_by-requires-clause-is_on
spanned_by-requires-clause-is_on c =
    let skills = c.self.inside.skills.items in
    let given : c.loop-skill.sets.items ≡ item_sets (skills_seen skills) =
    c.loop-skill.invariant
    ∙ ap (map (λ s. s.1))
    (take_all c.loop-skill.skill-index c.deref-skill-items.result.now c.loop-skill-test.false
    ∙ c.deref-skill-items.ensures.value)
    ∙ sym (seen-sets skills) in
    subst (λ (sets : List Items). AreOn c.self.inside.item_count sets) (sym given)
    c.self.invariant.cover.small

pub returns-in-Ok-clause-sets : goal.returns-in-Ok-clause-sets
returns-in-Ok-clause-sets c =
    let skills = c.self.inside.skills.items in
    let given : c.loop-skill.sets.items ≡ item_sets (skills_seen skills) =
    c.loop-skill.invariant
    ∙ ap (map (λ s. s.1))
    (take_all c.loop-skill.skill-index c.deref-skill-items.result.now c.loop-skill-test.false
    ∙ c.deref-skill-items.ensures.value)
    ∙ sym (seen-sets skills) in
    rw (← c.self.view_is)
    (based-sets c.self.inside.item_count (item_sets (skills_seen skills)) c.loop-skill.sets.items
    c.in-Ok.base.sets given c.self.invariant.cover.small c.in-Ok.ensures.sets)

pub returns-in-Ok-clause-family : goal.returns-in-Ok-clause-family
returns-in-Ok-clause-family c =
    let skills = c.self.inside.skills.items in
    let given : c.loop-skill.sets.items ≡ item_sets (skills_seen skills) =
    c.loop-skill.invariant
    ∙ ap (map (λ s. s.1))
    (take_all c.loop-skill.skill-index c.deref-skill-items.result.now c.loop-skill-test.false
    ∙ c.deref-skill-items.ensures.value)
    ∙ sym (seen-sets skills) in
    rw (← c.self.view_is)
    (based-family c.self.inside.item_count (item_sets (skills_seen skills)) c.loop-skill.sets.items
    c.in-Ok.base given c.self.invariant.cover.small c.in-Ok.ensures.item_count
    c.in-Ok.ensures.sets)
