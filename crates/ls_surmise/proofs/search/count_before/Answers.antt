use Rattle.ls_surmise.proofs.Vocabulary.{arith, comes_before, empty, rules}
use Rattle.std.proofs.lemmas.List.Sorted.{IsPartitionPoint-from_clause}
use Rattle.ls_surmise.proofs.Jumps.{parted}
use Rattle.ls_surmise.proofs.search.count_before.Goals as goal

pub returns-clause-before : goal.returns-clause-before
returns-clause-before c =
    let point = IsPartitionPoint-from_clause (λ s. comes_before s c.args.next) _ _ c.partition_point.ensures.partitioned (parted c.args.sets.now c.args.next c.requires) (λ a r q k. search rules) in
    λ k h. point.0 k empty (omega arith) h
