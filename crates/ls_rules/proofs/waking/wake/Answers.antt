use Rattle.ls_rules.proofs.Vocabulary.{lose_all, places_at, rules_at, several}
use Rattle.ls_rules.proofs.Indexing.{indexed_small}
use Rattle.ls_rules.proofs.Rounds.{still_gone}
use Rattle.ls_rules.proofs.waking.wake.Goals as goal

pub look_keeping-requires-clause-places : goal.look_keeping-requires-clause-places
look_keeping-requires-clause-places c = indexed_small c.args.rules.now (λ r. several r.a) c.args.wakes.now c.args.i c.of.result.now c.requires.wakes c.of.ensures

pub returns-else-lose_keeping : goal.returns-else-lose_keeping
returns-else-lose_keeping c =
    let gone = rw c.if-lose_keeping.false at c.lose_keeping.ensures in
    let later = still_gone (lose_all c.args.round.now c.lost_with.result) (rules_at c.args.rules.now (places_at c.args.wakes.now c.args.i)) gone.0 gone.2 in
    rw (c.if-lose_keeping.false, ← c.lost_with.ensures) (gone.0, gone.1, later)
