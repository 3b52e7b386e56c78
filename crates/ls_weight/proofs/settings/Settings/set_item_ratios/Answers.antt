use Rattle.ls_weight.proofs.Vocabulary.{Ratios, are_ratios, arith}
use Rattle.std.proofs.Math.ListN.{length-set}
use Rattle.ls_lists.proofs.Every.{list_all-set}
use Rattle.ls_weight.proofs.settings.Settings.set_item_ratios.Goals as goal

pub invariant_of-self : goal.invariant_of-self
invariant_of-self c = record {
  few = omega (arith, length-set {A = Ratios}, c.self.invariant.few);
  ratios = list_all-set are_ratios _ c.args.q c.in_ok-ratios.ratios c.self.invariant.ratios c.in_ok-ratios.ensures.allowed;
  limits = c.self.invariant.limits;
}
