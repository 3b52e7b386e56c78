use Rattle.ls_weight.proofs.Vocabulary.{◌∙◌, ap, are_ratios, arith, list_all}
use Rattle.ls_weight.proofs.KeptSettings.{list_all-replicate}
use Rattle.ls_weight.proofs.settings.Settings.set_all_ratios.Goals as goal

pub invariant_of-self : goal.invariant_of-self
invariant_of-self c = record {
  few = omega (arith, c.fill.ensures.len, c.self.invariant.few);
  ratios = ap (list_all are_ratios) (c.fill.ensures.items (λ y e. e)) ∙ list_all-replicate are_ratios _ c.in_ok-ratios.ratios c.in_ok-ratios.ensures.allowed;
  limits = c.self.invariant.limits;
}
