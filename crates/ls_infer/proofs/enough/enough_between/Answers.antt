use Rattle.ls_infer.proofs.Vocabulary.{◌+◌, ◌∙◌, ◌≡◌, ◌≤◌, ap, arith, full, len, minus, sym, with}
use Rattle.ls_infer.proofs.Kept.{with-within}
use Rattle.ls_infer.proofs.Outside.{with-here}
use Rattle.ls_infer.proofs.States.{enough-all, with-itself, among-others, others-within, others-few, others-fewer}
use Rattle.ls_infer.proofs.enough.enough_between.Goals as goal

pub returns-then-has-clause-value : goal.returns-then-has-clause-value
returns-then-has-clause-value g c = λ _ states.
    let n = g.I.Interior.item_count c.args.f.now in
    (states, λ _ _. c.full-all.ensures ∙ ap full c.items.ensures.count ∙ sym (enough-all n (g.I.Interior.members c.args.f.now) c.args.closed c.args.q c.requires.item (sym c.has.ensures ∙ c.if-has.true)))

pub enough_among-requires-clause-known : goal.enough_among-requires-clause-known
enough_among-requires-clause-known g c = rw c.with-known.ensures (with-within _ c.args.known c.args.q c.requires.known c.requires.item)

pub enough_among-requires-clause-rest : goal.enough_among-requires-clause-rest
enough_among-requires-clause-rest g c = rw (c.minus-items.ensures, c.minus.ensures) (others-within _ c.args.among c.with-known.result c.args.closed c.requires.among)

pub returns-clause-value : goal.returns-clause-value
returns-clause-value g c = λ member states.
    let n = g.I.Interior.item_count c.args.f.now in
    let f = g.I.Interior.members c.args.f.now in
    let others : c.minus-items.result ≡ minus (minus c.args.among c.with-known.result) c.args.closed = rw c.minus.ensures at c.minus-items.ensures in
    let so = c.enough_among.ensures.value member states in
    (so.0, λ known among. so.1 (rw c.with-known.ensures (with-itself n f c.args.closed c.args.q c.args.known c.requires.item known)) (λ r h. rw others (among-others n f c.args.closed c.args.q c.with-known.result c.args.among r member (sym c.has.ensures ∙ c.if-has.false) among h)))

pub returns-clause-cost : goal.returns-clause-cost
returns-clause-cost g c =
    let n = g.I.Interior.item_count c.args.f.now in
    let few : len c.minus-items.result + 1 ≤ n = rw (c.minus-items.ensures, c.minus.ensures, c.with-known.ensures) (others-few n c.args.among (with c.args.known c.args.q) c.args.closed c.args.q c.requires.among c.requires.item (with-here c.args.known c.args.q)) in
    omega (arith, few, c.len.ensures, c.items-2.ensures.count, c.saturating_sub.ensures, c.saturating_sub-spare.ensures, c.enough_among.ensures.cost)

pub returns-clause-fewer : goal.returns-clause-fewer
returns-clause-fewer g c i here l more =
    let n = g.I.Interior.item_count c.args.f.now in
    let few : len c.minus-items.result + 2 ≤ n = rw (c.minus-items.ensures, c.minus.ensures, c.with-known.ensures)
    (others-fewer n c.args.among (with c.args.known c.args.q) c.args.closed c.args.q i c.requires.among c.requires.item (with-here c.args.known c.args.q) (sym c.has.ensures ∙ c.if-has.false) here l) in
    omega (arith, few, c.len.ensures, c.items-2.ensures.count, c.saturating_sub.ensures, c.saturating_sub-spare.ensures, c.enough_among.ensures.cost)
