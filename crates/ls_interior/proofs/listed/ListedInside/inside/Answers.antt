use Rattle.std.proofs.Common.{arith, rules, ap, ◌∙◌}
use Rattle.std.specs.Option.{unwrap_or}
use Rattle.std.proofs.lemmas.List.Sorted.{IsPartitionPoint-from_clause}
use Rattle.ls_set.specs.{comes_before, empty}
use Rattle.ls_interior.proofs.Firsts.{parted, interior-from}
use Rattle.ls_interior.proofs.listed.ListedInside.inside.Goals as goal

pub returns : goal.returns
returns c =
    let f = c.self.inside in
    let s = c.args.s in
    let from = c.partition_point-from in
    let point = IsPartitionPoint-from_clause (λ k. comes_before k s) _ _ from.ensures.partitioned (parted f.sets.now s f.is_family.in_order) (λ a r q k. search rules) in
    let found = interior-from f.count f.sets.now s from.result f.is_family from.ensures.bound (λ k l. point.0 k empty (omega arith) l) in
    rw (← c.self.view_is) (c.unwrap_or.ensures ∙ ap (λ o. unwrap_or o c.empty.result) (c.first_within.ensures ∙ found))
