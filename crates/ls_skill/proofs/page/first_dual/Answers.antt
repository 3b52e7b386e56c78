use Rattle.std.proofs.Common.{◌∙◌, sym, ap, Some}
use Rattle.std.specs.Prelude.{find}
use Rattle.ls_lists.proofs.Finds.{find-any}
use Rattle.ls_set.specs.ItemSet.{full, comes_before}
use Rattle.ls_theory.specs.Pages.{comes_after}
use Rattle.ls_origins.specs.Skills.{duals}
use Rattle.ls_skill.proofs.Dual.{first-dual}
use Rattle.ls_skill.proofs.page.first_dual.Goals as goal

pub returns-in-None-clause-first : goal.returns-in-None-clause-first
returns-in-None-clause-first g c =
    let n = g.I.Interior.item_count c.args.f.now in
    let f = g.I.Interior.members c.args.f.now in
    let family = g.met.I.Interior.is_family c.args.f.now in
    sym
    (ap (λ o. find (comes_after comes_before o) (duals n f)) c.in-None.is ∙ find-any (duals n f)
    ∙ first-dual n f family.holds_empty ∙ ap Some
    (sym (c.full.ensures ∙ ap full c.items.ensures.count)))
