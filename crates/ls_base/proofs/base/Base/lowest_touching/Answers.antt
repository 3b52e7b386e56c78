use Rattle.std.proofs.Common.{List, filter, subst}
use Rattle.std.specs.Prelude.{IfOk}
use Rattle.ls_set.specs.{Items}
use Rattle.ls_laws.specs.Spans.{touches}
use Rattle.ls_laws.specs.LeastSets.{IsBelow}
use Rattle.ls_base.specs.Bases.{BaseState}
use Rattle.ls_base.proofs.base.Base.lowest_touching.Goals as goal

pub returns-clause-below : goal.returns-clause-below
returns-clause-below c =
    let items = c.args.items in
    let found = c.lowest_touching.result in
    subst (λ (b : BaseState). IfOk found
    (λ lowest. IsBelow lowest.items (filter (λ k. touches k items) b.sets))) c.self.view_is
    (subst (λ (sets : List Items). IfOk found
    (λ lowest. IsBelow lowest.items (filter (λ k. touches k items) sets)))
    c.deref.ensures.value c.lowest_touching.ensures.below)
