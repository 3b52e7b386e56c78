use Rattle.ls_columns.proofs.Vocabulary.{AreColumns, List, Query, least-cases, len-without_least, no_least, subst, sym, ◌∙◌}
use Rattle.ls_columns.proofs.Columned.{Collects-done, Collects-first, Collects-more, column-read}
use Rattle.ls_columns.proofs.block.Block.with_any.Goals as goal

pub loop-i-init : goal.loop-i-init
loop-i-init c = rw c.empty-places.ensures (Collects-first c.args.self.now c.args.items)

pub loop-i-smaller : goal.loop-i-smaller
loop-i-smaller c = rw c.without-left.ensures (len-without_least c.loop-i.left c.in-Some.i (sym c.least.ensures.value ∙ c.in-Some.is))

pub loop-i-preserved : goal.loop-i-preserved
loop-i-preserved c =
    let i = c.in-Some.i in
    let rs = c.args.self.now in
    let left = c.loop-i.left in
    let column = c.index.result.now in
    let here = least-cases left i (sym c.least.ensures.value ∙ c.in-Some.is) in
    let are = subst (λ (rs : List Query). AreColumns rs c.self.inside.columns.items) c.self.view_is c.self.invariant in
    let read = column-read rs c.self.inside.columns.items i column are c.in-Some.ensures.place c.index.ensures in
    rw (c.union-places.ensures, c.without-left.ensures) (Collects-more rs c.args.items left c.loop-i.places column i here.0 read c.loop-i.invariant)

pub returns : goal.returns
returns c = Collects-done c.args.self.now c.args.items c.loop-i.left c.loop-i.places (no_least c.loop-i.left (sym c.least.ensures.value ∙ c.in_default.is)) c.loop-i.invariant
