use Rattle.ls_standing.proofs.Vocabulary.{rules}
use Rattle.std.proofs.lemmas.Fn.{filter_same}
use Rattle.ls_standing.proofs.answers.take_out.Goals as goal

pub returns : goal.returns
returns c = filter_same _ _ _ (λ x b f' k. search rules) _ _ c.retain.ensures.filtered
