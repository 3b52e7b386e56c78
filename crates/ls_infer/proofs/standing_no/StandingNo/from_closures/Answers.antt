use Rattle.ls_infer.proofs.Vocabulary.{◌∙◌, ◌≡◌, IsWithin, ap, arith, closure_holds, full, good-from, minus-within}
use Rattle.ls_infer.proofs.States.{good-item, reached}
use Rattle.ls_infer.proofs.standing_no.StandingNo.from_closures.Goals as goal

pub closure-closed-requires : goal.closure-closed-requires
closure-closed-requires g c = (good-from _ c.args.answer.now.query c.requires).small

pub items_entailing-known-requires : goal.items_entailing-known-requires
items_entailing-known-requires g c = let item = (good-from _ c.args.answer.now.query c.requires).item in omega (arith, item, c.items.ensures.count, c.items.ensures.few)

pub from_known-requires-clause-within : goal.from_known-requires-clause-within
from_known-requires-clause-within g c = rw c.closure-closed.ensures.value (minus-within _ _)

pub from_known-requires-clause-known : goal.from_known-requires-clause-known
from_known-requires-clause-known g c = rw (c.full-all.ensures, c.items.ensures.count) at c.items_entailing-known.ensures.part

pub returns-clause-value : goal.returns-clause-value
returns-clause-value g c = λ states.
    let n = g.I.Interior.item_count c.args.f.now in
    let f = g.I.Interior.members c.args.f.now in
    let all : c.full-all.result ≡ full n = c.full-all.ensures ∙ ap full c.items.ensures.count in
    let part : IsWithin c.items_entailing-known.result (full n) = rw all at c.items_entailing-known.ensures.part in
    let so = c.from_known.ensures.value c.closure-closed.ensures.value states in
    (so.0, λ k kept_closures. so.1 (reached n f c.closure-closed.result c.args.answer.now.query.q c.items_entailing-known.result part (c.items_entailing-known.ensures.closures n k f (rw all (λ i h. h)) kept_closures)))

pub returns-clause-cost : goal.returns-clause-cost
returns-clause-cost g c =
    let n = g.I.Interior.item_count c.args.f.now in
    let good = good-from n c.args.answer.now.query c.requires in
    let item = good-item n c.args.answer.now.query good in
    let here = closure_holds (full n) (g.I.Interior.members c.args.f.now) c.args.answer.now.query.a good.small item.0 item.1 in
    let fewer = c.from_known.ensures.fewer item.0 (rw c.closure-closed.ensures.value here) item.2 in
    omega (arith, c.closure-closed.ensures.cost, fewer)
