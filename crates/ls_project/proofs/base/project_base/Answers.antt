use Rattle.std.proofs.Common.{ap, ◌∙◌}
use Rattle.ls_theory.specs.{base}
use Rattle.ls_laws.specs.Spans.{spanned}
use Rattle.ls_clauses.specs.Traces.{meets_with}
use Rattle.ls_project.proofs.Bases.{meets-on, traced-base}
use Rattle.ls_project.proofs.base.project_base.Goals as goal

pub spanned_by-requires-clause-is_on : goal.spanned_by-requires-clause-is_on
spanned_by-requires-clause-is_on c =
    let b = c.args.b.now in
    rw c.items.ensures.count (meets-on b.item_count c.args.part b.sets c.in_ok-meets.meets.items c.sets.ensures.base (c.in_ok-meets.ensures ∙ ap (meets_with c.args.part) c.sets.ensures.value))

pub returns-in-Ok-clause-sets : goal.returns-in-Ok-clause-sets
returns-in-Ok-clause-sets c =
    let b = c.args.b.now in
    c.in-Ok.ensures.sets ∙ ap (λ n. base (spanned n c.in_ok-meets.meets.items)) c.items.ensures.count
    ∙ traced-base b.item_count c.args.part b.sets c.in_ok-meets.meets.items c.sets.ensures.base (c.in_ok-meets.ensures ∙ ap (meets_with c.args.part) c.sets.ensures.value)
