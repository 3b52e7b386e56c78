use Rattle.ls_rules.proofs.Vocabulary.{arith, with_items_is}
use Rattle.ls_rules.proofs.Indexing.{Covers-push}
use Rattle.ls_rules.proofs.index.Index.push.Goals as goal

pub invariant_of-self : goal.invariant_of-self
invariant_of-self c =
    let put = rw c.deref_mut.ensures.value at c.push_each.ensures.places in
    rw (with_items_is c.self.inside.lists c.push_each.new.lists (omega arith), c.union-self-inside.ensures)
    (Covers-push c.self.inside.items c.args.set c.self.inside.lists.items c.push_each.new.lists c.args.place c.self.invariant put)
