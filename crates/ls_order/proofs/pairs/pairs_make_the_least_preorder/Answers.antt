use Rattle.std.proofs.Common.{◌≡◌, true}
use Rattle.ls_order.proofs.Reached.{relation-preorder, relation-holds, relation-least}
use Rattle.ls_order.proofs.Reached.{relation-told, strict-holds, strict-transitive, strict-least}
use Rattle.ls_order.proofs.Reached.{strict-pairs, acyclic-order, acyclic-unpaired, order-acyclic}
use Rattle.ls_order.proofs.KeptPairs.{kept-pairs, kept-strictly}
use Rattle.ls_order.proofs.pairs.pairs_make_the_least_preorder.Goals as goal

pub returns : goal.returns
returns c = record {
  preorder = relation-preorder;
  holds = relation-holds;
  least = relation-least;
  told = relation-told;
  strictly_holds = strict-holds;
  strictly_transitive = strict-transitive;
  strictly_least = λ under. strict-least (λ x y. under x y ≡ true);
  strictly = strict-pairs;
  order = acyclic-order;
  unpaired = acyclic-unpaired;
  no_cycle = order-acyclic;
  family = kept-pairs;
  strict_family = kept-strictly;
}
