use Rattle.std.proofs.Common.{◌-◌, ◌∙◌, ap, arith, length}
use Rattle.serde_json.specs.View.{members_view, view}
use Rattle.serde_json.specs.Data.{string}
use Rattle.ls_files.specs.SurmiseFiles.{list_value}
use Rattle.ls_files.specs.SkillFiles.{own_skills, rows_of}
use Rattle.ls_skill.specs.Maps.{skills_seen}
use Rattle.ls_skill.proofs.Printed.{members-end, members-next}
use Rattle.ls_skill.proofs.skill_map.SkillMap.members.Goals as goal

pub loop-q-init : goal.loop-q-init
loop-q-init c =
    let names = c.args.d.now in
    ap members_view c.new-members.ensures.empty
    ∙ members-end names (rows_of (length names) c.args.self.now.skills) c.count-q.result
    c.count-q.ensures.value

pub loop-q-preserved : goal.loop-q-preserved
loop-q-preserved c =
    let names = c.args.d.now in
    let skills = c.args.self.now.skills in
    let q = c.loop-q.q - 1 in
    let seen = ap skills_seen c.deref.ensures.value ∙ ap (λ m. m.skills) c.self.view_is in
    members-next names skills q c.loop-q.q c.name.result.now (view c.in_ok-row.row) _ _
    (omega arith)
    (omega (arith, c.count-q.ensures.value)) c.name.ensures
    (c.in_ok-row.ensures ∙ ap (λ m. list_value string (own_skills m q)) seen)
    c.loop-q.invariant c.in_ok-insert_member.ensures
