use Rattle.std.proofs.Common.{rules, tests}
use Rattle.std.proofs.lemmas.Iterator.Consumers.{YieldsList-from_filter, YieldsList-from_first}
use Rattle.ls_query.proofs.Vocabulary.{◌∙◌, ap, items}
use Rattle.ls_query.proofs.Lasts.{can_move, last-move, last-yielded}
use Rattle.ls_query.proofs.moving.last_move.Goals as goal

pub returns : goal.returns
returns c =
    let a = c.args.a in
    last-move c.args.n a c.last.result (last-yielded c.last.result c.last.ensures.ran
    (YieldsList-from_filter _ (can_move c.args.n a) (YieldsList-from_first (λ x. x) items (items a) (ap items (c.filter.ensures.source ∙ c.items.ensures))) c.filter.ensures.closure (λ x b q k. search (rules, tests))))
