use Rattle.ls_surmise.proofs.Vocabulary.{◌≡◌, Some, as_array, items_view, rules, view}
use Rattle.ls_surmise.proofs.Names.{named-first, named-next, named-none, named-last}
use Rattle.ls_surmise.proofs.reading.read_clause.Goals as goal

pub loop-entry-init : goal.loop-entry-init
loop-entry-init c =
    let e : Some (items_view c.deref-entry-items.result.now) ≡ as_array (view c.args.value.now) = search rules in
    named-first c.args.d.now c.empty-set.result c.deref-entry-items.result.now (as_array (view c.args.value.now)) c.empty-set.ensures e

pub loop-entry-preserved : goal.loop-entry-preserved
loop-entry-preserved c =
    rw c.with-set.ensures (named-next c.args.d.now c.loop-entry.set c.deref-entry-items.result.now c.loop-entry.entry-index c.entry-item.result c.in-Some-item_of.item _ c.loop-entry-test.true c.entry-item.is c.in-Some-item_of.ensures.value c.loop-entry.invariant)

pub returns : goal.returns
returns c = named-last c.args.d.now c.loop-entry.set c.deref-entry-items.result.now c.loop-entry.entry-index _ c.loop-entry-test.false c.loop-entry.invariant

pub returns-in_default-item_of : goal.returns-in_default-item_of
returns-in_default-item_of c =
    named-none c.args.d.now c.loop-entry.set c.deref-entry-items.result.now c.loop-entry.entry-index c.entry-item.result _ c.loop-entry-test.true c.entry-item.is c.in_default-item_of.ensures.value c.loop-entry.invariant
