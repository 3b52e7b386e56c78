use Rattle.std.proofs.lemmas.Iterator.Consumers.{YieldsList-from_first}
use Rattle.ls_query.proofs.Vocabulary.{ap, items}
use Rattle.ls_query.proofs.Lasts.{last-item, last-yielded}
use Rattle.ls_query.proofs.walk.greatest.Goals as goal

pub returns : goal.returns
returns c = last-item c.args.set c.last.result (last-yielded c.last.result c.last.ensures.ran (YieldsList-from_first (λ x. x) items (items c.args.set) (ap items c.items.ensures)))
