use Rattle.ls_rules.proofs.Vocabulary.{◌∙◌, first_of, not-false, several, sym}
use Rattle.ls_rules.proofs.Indexing.{indexed_small}
use Rattle.ls_rules.proofs.Barred.{barred-none}
use Rattle.ls_rules.proofs.barring.without_barred_from.Goals as goal

pub without_barred-requires-clause-places : goal.without_barred-requires-clause-places
without_barred-requires-clause-places c = indexed_small c.args.rules.now (λ r. first_of (several r.a)) c.args.starts.now c.args.i c.of.result.now c.requires.starts c.of.ensures

pub returns-else-meets : goal.returns-else-meets
returns-else-meets c =
    barred-none c.args.rules.now c.args.starts.now c.args.heads.now c.args.i c.args.set c.args.items c.requires.starts c.requires.heads
    (not-false _ (sym c.meets.ensures ∙ c.if-meets.false))
