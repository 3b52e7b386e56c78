use Rattle.ls_columns.proofs.Vocabulary.{ap, empty, get_or_default, least-cases, len-without_least, length, no_least, set, sym, with, ◌<◌, ◌∙◌}
use Rattle.ls_columns.proofs.Columned.{Putting-done, Putting-first, Putting-more}
use Rattle.ls_columns.proofs.block.put.Goals as goal

pub loop-i-init : goal.loop-i-init
loop-i-init c = Putting-first c.args.columns.now c.args.set c.args.place c.requires.count

pub loop-i-smaller : goal.loop-i-smaller
loop-i-smaller c = rw c.without-left.ensures (len-without_least c.loop-i.left c.in-Some.i (sym c.least.ensures.value ∙ c.in-Some.is))

pub loop-i-preserved : goal.loop-i-preserved
loop-i-preserved c =
    let i = c.in-Some.i in
    let columns = c.loop-i.columns in
    let place = c.args.place in
    let here = least-cases c.loop-i.left i (sym c.least.ensures.value ∙ c.in-Some.is) in
    let small = c.in-Some.ensures.place in
    let bound : i < length columns = rw c.loop-i.invariant.count small in
    let read = c.index-columns-i.is ∙ get_or_default columns i c.index-columns-i.result empty bound in
    let put = c.with.ensures ∙ ap (λ s. with s place) read in
    rw c.without-left.ensures (Putting-more c.args.columns.now columns (set columns i c.with.result) c.args.set c.loop-i.left place i small here.0 (ap (set columns i) put) c.loop-i.invariant)

pub returns-clause-columns : goal.returns-clause-columns
returns-clause-columns c = Putting-done c.args.columns.now c.loop-i.columns c.args.set c.loop-i.left c.args.place (no_least c.loop-i.left (sym c.least.ensures.value ∙ c.in_default.is)) c.loop-i.invariant
