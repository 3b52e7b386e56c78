use Rattle.ls_paths.proofs.Vocabulary.{◌∙◌, PLACES, ap, full, minus, sym}
use Rattle.ls_paths.proofs.Written.{outside-all}
use Rattle.ls_paths.proofs.Padding.{zeros-behind, as-long, grown-length}
use Rattle.ls_paths.proofs.order.Order.first.Goals as goal

pub invariant_of-result : goal.invariant_of-result
invariant_of-result g c =
    let n = g.F.Inside.item_count c.args.f.now in
    let f = g.F.Inside.members c.args.f.now in
    let k = c.items-n.result in
    let few = c.items-n.ensures.few in
    let long = grown-length PLACES k n f c.empty.result c.grow.new.order c.grow.ensures few in
    record { within = few; long = as-long PLACES k c.grow.new.order long few; rest = zeros-behind PLACES k c.grow.new.order long }

pub grow-requires-clause-outside : goal.grow-requires-clause-outside
grow-requires-clause-outside g c =
    let n = g.F.Inside.item_count c.args.f.now in
    c.full.ensures ∙ ap full c.items-n.ensures.count ∙ outside-all n ∙ ap (minus (full n)) (sym c.empty.ensures)
