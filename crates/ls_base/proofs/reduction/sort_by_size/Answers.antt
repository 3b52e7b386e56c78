use Rattle.ls_base.proofs.Vocabulary.{len, rules}
use Rattle.std.proofs.lemmas.List.Sorted.{IsNonDecreasingBy-from_sort_by_key}
use Rattle.ls_base.proofs.Rising.{Rises-from}
use Rattle.ls_base.proofs.reduction.sort_by_size.Goals as goal

pub returns-clause-rises : goal.returns-clause-rises
returns-clause-rises c = Rises-from c.sort_unstable_by_key.new.self
    (IsNonDecreasingBy-from_sort_by_key len _ c.sort_unstable_by_key.ensures.sorted (λ a r q k.
    search rules))
