use Rattle.ls_paths.proofs.Vocabulary.{◌∙◌, ap, empty, leaves_below, next_growth, sym}
use Rattle.ls_paths.proofs.Growths.{learning-from}
use Rattle.ls_paths.proofs.Levels.{order-fresh, order-parts}
use Rattle.ls_paths.proofs.Padding.{order-within}
use Rattle.ls_paths.proofs.Walks.{follows}
use Rattle.ls_paths.proofs.walk.Walk.from_order.Goals as goal

pub first_level-level-requires-clause-fresh : goal.first_level-level-requires-clause-fresh
first_level-level-requires-clause-fresh g c = rw c.items.ensures (order-fresh (g.F.Inside.item_count c.args.family.now) c.args.after.now c.requires.order)

pub first_level-level-requires-clause-small : goal.first_level-level-requires-clause-small
first_level-level-requires-clause-small g c = rw c.items.ensures (order-within (g.F.Inside.item_count c.args.family.now) c.args.after.now c.requires.order)

pub leave-has_path-requires-clause-fresh : goal.leave-has_path-requires-clause-fresh
leave-has_path-requires-clause-fresh g c = order-fresh (g.F.Inside.item_count c.args.family.now) c.args.after.now c.requires.order

pub leave-has_path-requires-clause-members : goal.leave-has_path-requires-clause-members
leave-has_path-requires-clause-members g c = rw c.items.ensures at c.first_level-level.ensures.members

pub invariant_of-result : goal.invariant_of-result
invariant_of-result g c =
    let n = g.F.Inside.item_count c.args.family.now in
    let f = g.F.Inside.members c.args.family.now in
    let learning = learning-from n f (g.met.F.Inside.is_family c.args.family.now).small c.requires.learning in
    let after = c.args.after.now in
    let follow = follows n f c.leave-has_path.result after c.leave-has_path.new.self c.first_level-level.result.0 _ learning (order-parts n after c.requires.order).long (ap (λ xs. next_growth n f xs empty) (sym c.items.ensures) ∙ c.first_level-level.ensures.leaves ∙ ap (λ xs. leaves_below n f empty xs c.first_level-level.result.0) c.items.ensures) c.leave-has_path.ensures in
    record { learning = c.requires.learning; whole = follow.whole }

pub returns-clause-left : goal.returns-clause-left
returns-clause-left g c =
    let n = g.F.Inside.item_count c.args.family.now in
    let f = g.F.Inside.members c.args.family.now in
    let learning = learning-from n f (g.met.F.Inside.is_family c.args.family.now).small c.requires.learning in
    let after = c.args.after.now in
    let follow = follows n f c.leave-has_path.result after c.leave-has_path.new.self c.first_level-level.result.0 _ learning (order-parts n after c.requires.order).long (ap (λ xs. next_growth n f xs empty) (sym c.items.ensures) ∙ c.first_level-level.ensures.leaves ∙ ap (λ xs. leaves_below n f empty xs c.first_level-level.result.0) c.items.ensures) c.leave-has_path.ensures in
    follow.left
