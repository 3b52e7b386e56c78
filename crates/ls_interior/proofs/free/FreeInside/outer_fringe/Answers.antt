use Rattle.std.proofs.Common.{◌∙◌, ap}
use Rattle.ls_set.specs.{minus}
use Rattle.ls_interior.proofs.Chosen.{free-outer}
use Rattle.ls_interior.proofs.free.FreeInside.outer_fringe.Goals as goal

pub returns : goal.returns
returns c = rw (← c.self.view_is) (record {
  value = λ m. c.minus.ensures ∙ ap (λ s. minus s c.args.member) c.full.ensures ∙ free-outer c.self.inside.count c.args.member m;
})
