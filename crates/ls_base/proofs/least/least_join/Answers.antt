use Rattle.ls_base.proofs.Vocabulary.{◌+◌, ◌∙◌, ap, drop, drop-next, joins, least_size, map, sym, union}
use Rattle.ls_base.proofs.Joins.{least_size-append}
use Rattle.ls_base.proofs.least.least_join.Goals as goal

pub loop-set-preserved : goal.loop-set-preserved
loop-set-preserved c =
    let sets = c.args.sets.now in
    let near = c.args.near.now in
    let i = c.loop-set.set-index in
    let k = c.set-item.result in
    let least = c.loop-set.least in
    let left = joins (drop (i + 1) sets) near in
    ap (λ m. least_size m left) c.least_union-least.ensures
    ∙ sym (least_size-append least (map (union k) near) left)
    ∙ ap (λ l. least_size least (joins l near)) (sym (drop-next sets i k c.loop-set-test.true c.set-item.is)) ∙ c.loop-set.invariant
