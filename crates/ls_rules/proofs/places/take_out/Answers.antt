use Rattle.ls_rules.proofs.Vocabulary.{eqb, not, rules}
use Rattle.std.proofs.lemmas.Fn.{filter_same}
use Rattle.ls_rules.proofs.places.take_out.Goals as goal

pub returns : goal.returns
returns c = filter_same _ (λ p. not (eqb p c.args.place)) _ (λ p b f k. search rules) _ _ c.retain.ensures.filtered
