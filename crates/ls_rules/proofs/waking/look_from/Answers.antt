use Rattle.ls_rules.proofs.Vocabulary.{◌∙◌, first_of, not-false, several, sym}
use Rattle.ls_rules.proofs.Indexing.{indexed_small}
use Rattle.ls_rules.proofs.Begun.{passed}
use Rattle.ls_rules.proofs.waking.look_from.Goals as goal

pub look_at-requires-clause-places : goal.look_at-requires-clause-places
look_at-requires-clause-places c = indexed_small c.args.rules.now (λ r. first_of (several r.a)) c.args.starts.now c.args.i c.of.result.now c.requires.starts c.of.ensures

pub returns-else-meets : goal.returns-else-meets
returns-else-meets c =
    passed c.args.rules.now c.args.starts.now c.args.heads.now c.args.i c.args.round.now c.requires.starts c.requires.heads
    (not-false _ (sym c.meets.ensures ∙ c.if-meets.false))
