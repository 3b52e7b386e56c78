use Rattle.std.proofs.Common.{◌∙◌, ◌≡◌, ap}
use Rattle.std.proofs.lemmas.Result.{IfOk-weaker}
use Rattle.serde_json.specs.Data.{object}
use Rattle.serde_json.specs.View.{view}
use Rattle.serde_json.specs.declared.value.Value.TheVariants.{Object}
use Rattle.serde_json.proofs.Views.{view-Object}
use Rattle.ls_files.specs.SkillFiles.{skills_value, skills_text}
use Rattle.ls_skill.proofs.Printed.{skills-no_float}
use Rattle.ls_skill.proofs.skill_map.SkillMap.print.Goals as goal

pub returns : goal.returns
unfolding skills_text
returns c =
    let names = c.args.d.now in
    let skills = c.args.self.now.skills in
    let value : view (Object c.in_ok-members.members) ≡ skills_value names skills =
    view-Object c.in_ok-members.members ∙ ap object c.in_ok-members.ensures in
    IfOk-weaker c.to_vec.result _ _
    (λ v h. let k = rw value at h in k (skills-no_float names skills)) c.to_vec.ensures.text
