use Rattle.std.proofs.Common.{◌<◌, ◌≤◌, List, length, ltb, le-ltb, subst}
use Rattle.ls_set.specs.ItemSet.{Items}
use Rattle.ls_theory.specs.Clauses.{clauses_of}
use Rattle.ls_order.proofs.Finding.{found-next}
use Rattle.ls_order.proofs.surmising.two_clauses.Goals as goal

pub loop-item-preserved : goal.loop-item-preserved
loop-item-preserved c =
    let s = c.args.s.now in
    let item = c.loop-item.item in
    found-next (λ q. ltb 1 (length (clauses_of s.clauses q))) item s.item_count
    (subst (λ n. item < n) c.items-item-end.ensures.count c.loop-item-test.true)
    (le-ltb _ _ (subst (λ (own : List Items). length own ≤ 1) c.clauses.ensures.value
    c.if-clauses-gt1.false))
    c.loop-item.invariant
