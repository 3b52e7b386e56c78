use Rattle.std.proofs.Common.{◌≡◌, ◌≤◌, ◌++◌, ◌∷◌, ◌∙◌, List, [], IsUtf8, ap, ap₂, length, subst}
use Rattle.std.proofs.Common.{sym, string_bytes}
use Rattle.std.specs.List.{AllByRecursion}
use Rattle.std.proofs.lemmas.List.{get_or_default, take_all}
use Rattle.ls_set.specs.ItemSet.{empty}
use Rattle.ls_laws.specs.Spans.{AreOn}
use Rattle.ls_origins.specs.Skills.{any}
use Rattle.ls_files.specs.SkillFiles.{Skill, item_sets, base_skills}
use Rattle.ls_skill.specs.Maps.{IsMap, skill_names, skills_seen}
use Rattle.ls_skill.proofs.Entries.{seen-push, seen-utf8}
use Rattle.ls_skill.proofs.Numbers.{base-next, base-map, base-any, base-fewest}
use Rattle.ls_skill.proofs.skill_map.SkillMap.from_base.Goals as goal

pub loop-place-preserved : goal.loop-place-preserved
loop-place-preserved c =
    let sets = c.sets-sets.result.now in
    let place = c.loop-place.place in
    let set = c.index-sets-place.result in
    let name = c.in_ok-name.name in
    ap skills_seen c.in_ok-push.ensures.items
    ∙ seen-push c.loop-place.skills.items (name, set)
    ∙ ap (λ m. m ++ record { name = string_bytes name; items = set } ∷ []) c.loop-place.invariant
    ∙ base-next sets place set (string_bytes name) c.loop-place-test.true
    (c.index-sets-place.is ∙ get_or_default sets place set empty c.loop-place-test.true)
    c.in_ok-name.ensures

pub invariant_of-result : goal.invariant_of-result
invariant_of-result c =
    let b = c.args.base.now in
    let skills = c.loop-place.skills.items in
    let whole : skills_seen skills ≡ base_skills b.sets =
    c.loop-place.invariant
    ∙ ap base_skills
    (take_all c.loop-place.place c.sets-sets.result.now c.loop-place-test.false ∙
    c.sets-sets.ensures.value) in
    subst (λ n. IsMap n (skills_seen skills)) (sym c.items.ensures.count)
    (subst (λ (m : List Skill). IsMap b.item_count m) (sym whole)
    (base-map b c.sets-sets.ensures.base c.requires c.sets-sets.ensures.few_items
    c.sets-sets.ensures.few
    (subst (λ (m : List Skill). AllByRecursion IsUtf8 (skill_names m)) whole (seen-utf8 skills))))

pub returns-clause-any : goal.returns-clause-any
returns-clause-any c =
    let b = c.args.base.now in
    let whole : skills_seen c.loop-place.skills.items ≡ base_skills b.sets =
    c.loop-place.invariant
    ∙ ap base_skills
    (take_all c.loop-place.place c.sets-sets.result.now c.loop-place-test.false ∙
    c.sets-sets.ensures.value) in
    ap₂ (λ n (m : List Skill). any n (item_sets m)) c.items.ensures.count whole
    ∙ base-any b c.sets-sets.ensures.base

pub returns-clause-fewest : goal.returns-clause-fewest
returns-clause-fewest c = λ other on e.
    let b = c.args.base.now in
    let count = c.items.ensures.count in
    let whole : skills_seen c.loop-place.skills.items ≡ base_skills b.sets =
    c.loop-place.invariant
    ∙ ap base_skills
    (take_all c.loop-place.place c.sets-sets.result.now c.loop-place-test.false ∙
    c.sets-sets.ensures.value) in
    subst (λ (m : List Skill). length m ≤ length other) (sym whole)
    (base-fewest b c.sets-sets.ensures.base other
    (subst (λ n. AreOn n (item_sets other)) count on)
    (ap (λ n. any n (item_sets other)) (sym count) ∙ e))
