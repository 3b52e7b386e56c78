use Rattle.std.proofs.Common.{◌∙◌, ap, map, sym}
use Rattle.serde_json.specs.Data.{string}
use Rattle.serde_json.specs.View.{view}
use Rattle.ls_skill.proofs.Printed.{row-with, row-without}
use Rattle.ls_skill.proofs.printing.row_value.Goals as goal
use Rattle.ls_skill.proofs.printing.row_value.Goals.{then-has+in_ok-name+in_ok-push, else-has}

pub loop-skill-preserved : goal.loop-skill-preserved
loop-skill-preserved c =
    let skills = c.args.skills.now in
    let i = c.loop-skill.skill-index in
    let skill = c.skill-item.result in
    elim c.if-has.branch [
      | then-has+in_ok-name+in_ok-push w ↦
          row-with skills i c.args.q skill c.loop-skill.names.items c.if-has.names.items
          w.in_ok-name.name c.loop-skill-test.true c.skill-item.is
          (sym c.has.ensures ∙ w.if-has.true)
          (w.in_ok-name.ensures.ok ∙ w.as_str.ensures.value)
          (ap (λ v. v.items) w.names-is ∙ w.in_ok-push.ensures.items) c.loop-skill.invariant
      | else-has w ↦
          ap (λ v. map view v.items) w.names-is ∙ c.loop-skill.invariant
          ∙ ap (map string)
          (sym
          (row-without skills i c.args.q skill c.loop-skill-test.true c.skill-item.is
          (sym c.has.ensures ∙ w.if-has.false)))
    ]
