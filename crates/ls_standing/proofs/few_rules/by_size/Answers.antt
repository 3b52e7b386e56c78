use Rattle.ls_standing.proofs.Vocabulary.{◌∙◌, ap, list_all}
use Rattle.ls_standing.proofs.FewerRules.{all_moved}
use Rattle.ls_standing.proofs.few_rules.by_size.Goals as goal

pub returns : goal.returns
returns c = λ p. all_moved p c.in_ok-sorted.sorted.items c.sort_by_key.new.self.items c.sort_by_key.ensures.permutation ∙ ap (list_all p) c.in_ok-sorted.ensures.items
