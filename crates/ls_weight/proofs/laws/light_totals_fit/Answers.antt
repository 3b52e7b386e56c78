use Rattle.ls_weight.proofs.Light.{weight-some, weight-most, total-most, light-weight, light-total}
use Rattle.ls_weight.proofs.laws.light_totals_fit.Goals as goal

pub returns : goal.returns
returns c = record { some = weight-some; weight = weight-most; total = total-most; light_weight = light-weight; light_total = light-total }
