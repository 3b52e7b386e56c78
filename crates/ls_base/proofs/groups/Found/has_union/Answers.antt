use Rattle.ls_base.proofs.Vocabulary.{◌∙◌, ◌≡◌, Decides-is_same, ap, filter, is_same}
use Rattle.ls_base.proofs.Vocabulary.{slice_get_read, subst, sym}
use Rattle.ls_base.specs.Sizes.{Rises, begins_at}
use Rattle.ls_base.proofs.Rising.{Rises-filter}
use Rattle.ls_base.proofs.Grouped.{covers-all, covers-first, covers-lacks, covers-next}
use Rattle.ls_base.proofs.Grouped.{covers-small, covers-whole, left-fewer}
use Rattle.ls_base.proofs.groups.Found.has_union.Goals as goal

-- the group of the item
group : (c : goal.After-deref) → c.deref.result.now ≡ filter (begins_at c.in-Some.item)
    c.args.self.now.sets.items
group c =
    c.deref.ensures.value
    ∙ c.requires.grouped c.in-Some.item c.index.result.now (slice_get_read
    c.args.self.now.groups.items _ c.in-Some.item c.index.result.now (sym c.requires.many)
    c.in-Some.ensures.place c.index.ensures)

pub loop-item-init : goal.loop-item-init
loop-item-init c = covers-first c.args.self.now.sets.items c.args.set c.empty-union.result
    c.empty-union.ensures

pub joined-union-requires-clause-rises : goal.joined-union-requires-clause-rises
joined-union-requires-clause-rises c = subst Rises (sym (group c)) (Rises-filter (begins_at
    c.in-Some.item) c.args.self.now.sets.items c.requires.rises)

pub joined-union-requires-clause-within : goal.joined-union-requires-clause-within
joined-union-requires-clause-within c = covers-small c.args.self.now.sets.items c.args.set
    c.loop-item.union c.loop-item.left c.loop-item.invariant

pub returns-then-eq : goal.returns-then-eq
unfolding is_same
returns-then-eq c =
    sym (covers-whole c.args.self.now.sets.items c.args.set c.joined-union.result
    c.without-left.result
    (covers-next c.args.self.now c.args.set c.loop-item.union c.joined-union.result c.loop-item.left
    c.without-left.result c.in-Some.item c.index.result.now c.deref.result.now
    c.requires c.loop-item.invariant c.without-left.ensures c.in-Some.ensures.place c.index.ensures
    c.deref.ensures.value c.joined-union.ensures)
    ((Decides-is_same c.joined-union.result c.args.set).0 (sym c.eq.ensures ∙ c.if-eq.true)))

pub returns-then-not-has : goal.returns-then-not-has
returns-then-not-has c =
    sym (covers-lacks c.args.self.now.sets.items c.args.set c.joined-union.result
    c.without-left.result c.loop-item.left c.in-Some.item
    (covers-next c.args.self.now c.args.set c.loop-item.union c.joined-union.result c.loop-item.left
    c.without-left.result c.in-Some.item c.index.result.now c.deref.result.now
    c.requires c.loop-item.invariant c.without-left.ensures c.in-Some.ensures.place c.index.ensures
    c.deref.ensures.value c.joined-union.ensures)
    c.without-left.ensures (sym c.in-Some.ensures.value) c.loop-item.invariant.inside (sym
    c.has.ensures ∙ c.if-not-has.true))

pub loop-item-smaller : goal.loop-item-smaller
loop-item-smaller c = left-fewer c.loop-item.left c.without-left.result c.in-Some.item (sym
    c.in-Some.ensures.value) c.without-left.ensures

pub loop-item-preserved : goal.loop-item-preserved
loop-item-preserved c =
    covers-next c.args.self.now c.args.set c.loop-item.union c.joined-union.result c.loop-item.left
    c.without-left.result c.in-Some.item c.index.result.now c.deref.result.now
    c.requires c.loop-item.invariant c.without-left.ensures c.in-Some.ensures.place c.index.ensures
    c.deref.ensures.value c.joined-union.ensures

pub returns : goal.returns
unfolding is_same
returns c =
    c.eq-2.ensures ∙ ap (λ u. is_same u c.args.set) (covers-all c.args.self.now.sets.items
    c.args.set c.loop-item.union c.loop-item.left c.loop-item.invariant (sym
    c.in_default.ensures.value))
