use Rattle.ls_order.proofs.Related.{kept-learning, order-count}
use Rattle.ls_order.proofs.relations.orders_are_learning_spaces.Goals as goal

pub returns : goal.returns
returns c =
    record {
      exactly = kept-learning;
      order = λ n below o. (kept-learning n below o.preorder).1
          o.antisymmetric;
      count = order-count;
    }
