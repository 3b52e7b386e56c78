use Rattle.ls_rules.proofs.Vocabulary.{◌∙◌, ◌≡◌, Query, ap, arith, eqb-true, is_good, length, list_all-remove, nil_from_length, remove, sym}
use Rattle.ls_rules.proofs.Alone.{AreSingles-room}
use Rattle.ls_rules.proofs.Indexing.{IsIndexed-remove, IsIndexed-clear}
use Rattle.ls_rules.proofs.ruled.Ruled.remove.Goals as goal

pub remove-requires-3-clause-room : goal.remove-requires-3-clause-room
remove-requires-3-clause-room g c =
    let place = rw (← c.self.view_is) at c.requires in
    let s = c.self.inside in
    λ i e. (AreSingles-room s.rules.items s.singles c.args.place i c.remove-r.result c.self.invariant.singles_are place (ap (λ (r : Query). r.a) (sym c.remove-r.ensures.value) ∙ e))

pub remove-requires-3-clause-good : goal.remove-requires-3-clause-good
remove-requires-3-clause-good g c =
    let n = g.F.Inside.item_count c.self.inside.inner in
    rw (c.deref.ensures.value, c.remove-r.ensures.items, c.items-n.ensures.count) (list_all-remove (is_good n) c.self.inside.rules.items c.args.place c.self.invariant.good)

pub invariant_of-self-else-is_empty : goal.invariant_of-self-else-is_empty
invariant_of-self-else-is_empty g c =
    let n = g.F.Inside.item_count c.self.inside.inner in
    let place = rw (← c.self.view_is) at c.requires in
    let s = c.self.inside in
    let sets = rw (c.deref.ensures.value, c.remove-r.ensures.items) at c.remove-3.ensures.sets in
    rw c.remove-r.ensures.items
    (IsIndexed-remove n s.rules.items c.args.place c.remove-r.result s.wakes s.starts c.remove.new.self c.remove-2.new.self s.singles c.remove-3.new.self s.heads c.self.invariant place
    c.remove-r.ensures.value sets c.remove-3.ensures.len c.remove.ensures.places c.remove.ensures.len c.remove-2.ensures.places c.remove-2.ensures.len)

pub invariant_of-self : goal.invariant_of-self
invariant_of-self g c =
    let n = g.F.Inside.item_count c.self.inside.inner in
    let place = rw (← c.self.view_is) at c.requires in
    let s = c.self.inside in
    let sets = rw (c.deref.ensures.value, c.remove-r.ensures.items) at c.remove-3.ensures.sets in
    let left = IsIndexed-remove n s.rules.items c.args.place c.remove-r.result s.wakes s.starts c.remove.new.self c.remove-2.new.self s.singles c.remove-3.new.self s.heads c.self.invariant place
    c.remove-r.ensures.value sets c.remove-3.ensures.len c.remove.ensures.places c.remove.ensures.len c.remove-2.ensures.places c.remove-2.ensures.len in
    let empty : length c.remove-r.new.self.items ≡ 0 = omega (arith, eqb-true _ 0 (sym c.is_empty.ensures ∙ c.if-is_empty.true)) in
    let none = nil_from_length (remove s.rules.items c.args.place) (rw c.remove-r.ensures.items at empty) in
    rw c.remove-r.ensures.items (IsIndexed-clear n (remove s.rules.items c.args.place) c.remove.new.self c.remove-2.new.self c.remove-3.new.self s.heads c.clear.new.self left none c.clear.ensures.len)
