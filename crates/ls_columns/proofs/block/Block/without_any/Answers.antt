use Rattle.ls_columns.proofs.Vocabulary.{AreColumns, Decides-is_same, List, Query, is_same, least-cases, len-without_least, no_least, subst, sym, without, ◌∙◌}
use Rattle.ls_columns.proofs.Columned.{Clears-done, Clears-none, Clears-read}
use Rattle.ls_columns.proofs.block.Block.without_any.Goals as goal

pub returns-then-eq : goal.returns-then-eq
unfolding is_same
returns-then-eq c =
    let i = c.in-Some.i in
    let rs = c.args.self.now in
    let left = c.loop-i.left in
    let columns = c.self.inside.columns.items in
    let here = least-cases left i (sym c.least.ensures.value ∙ c.in-Some.is) in
    let are = subst (λ (rs : List Query). AreColumns rs columns) c.self.view_is c.self.invariant in
    let cleared = Clears-read rs columns c.args.places c.args.items left c.loop-i.rest c.index.result.now c.minus-rest.result i are c.in-Some.ensures.place c.index.ensures here.0 c.minus-rest.ensures c.loop-i.invariant in
    let none = (Decides-is_same c.minus-rest.result c.empty.result).0 (sym c.eq.ensures ∙ c.if-eq.true) ∙ c.empty.ensures in
    Clears-none c.args.self.now c.args.places c.args.items (without c.loop-i.left c.in-Some.i) c.minus-rest.result none cleared

pub loop-i-smaller : goal.loop-i-smaller
loop-i-smaller c = rw c.without-left.ensures (len-without_least c.loop-i.left c.in-Some.i (sym c.least.ensures.value ∙ c.in-Some.is))

pub loop-i-preserved : goal.loop-i-preserved
loop-i-preserved c =
    let i = c.in-Some.i in
    let rs = c.args.self.now in
    let left = c.loop-i.left in
    let columns = c.self.inside.columns.items in
    let here = least-cases left i (sym c.least.ensures.value ∙ c.in-Some.is) in
    let are = subst (λ (rs : List Query). AreColumns rs columns) c.self.view_is c.self.invariant in
    let cleared = Clears-read rs columns c.args.places c.args.items left c.loop-i.rest c.index.result.now c.minus-rest.result i are c.in-Some.ensures.place c.index.ensures here.0 c.minus-rest.ensures c.loop-i.invariant in
    rw c.without-left.ensures cleared

pub returns : goal.returns
returns c = Clears-done c.args.self.now c.args.places c.args.items c.loop-i.left c.loop-i.rest (no_least c.loop-i.left (sym c.least.ensures.value ∙ c.in_default.is)) c.loop-i.invariant
