use Rattle.ls_drill.proofs.Vocabulary.{◌∙◌, good-from, sym}
use Rattle.ls_drill.proofs.TurnsTaken.{least-small}
use Rattle.ls_drill.proofs.turns.reply.Goals as goal

pub implied-requires-clause-first : goal.implied-requires-clause-first
implied-requires-clause-first c = least-small c.args.hidden.now.item_count c.args.query.now c.in-Some.item c.requires (sym c.least.ensures.value ∙ c.in-Some.is)

pub implied-requires-clause-second : goal.implied-requires-clause-second
implied-requires-clause-second c = (good-from c.args.hidden.now.item_count c.args.query.now c.requires).item
