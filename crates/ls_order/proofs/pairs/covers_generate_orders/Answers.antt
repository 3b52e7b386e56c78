use Rattle.ls_order.proofs.Covered.{covers-are, covers-pairs, covers-generate, covers-acyclic}
use Rattle.ls_order.proofs.Covered.{cover-by_sets}
use Rattle.ls_order.proofs.pairs.covers_generate_orders.Goals as goal

pub returns : goal.returns
returns c =
    record {
      covered = covers-are;
      pairs = covers-pairs;
      generate = covers-generate;
      acyclic =
          covers-acyclic;
      by_sets = cover-by_sets;
    }
