use Rattle.ls_rules.proofs.Vocabulary.{asked_alone}
use Rattle.ls_rules.proofs.Alone.{put-single, CoversSets-put}
use Rattle.ls_rules.proofs.Indexing.{small_items}
use Rattle.ls_rules.proofs.singles.Singles.remove.Goals as goal

pub asked_alone-requires-clause-items : goal.asked_alone-requires-clause-items
asked_alone-requires-clause-items c = small_items c.args.n c.args.left.now c.requires.few c.requires.good

pub invariant_of-self : goal.invariant_of-self
invariant_of-self c =
    let room = rw (← c.self.view_is) at c.requires.room c.in-Some.i c.in-Some.ensures.one in
    rw (c.with-self-inside.ensures, c.put.ensures) (CoversSets-put c.self.inside.items c.self.inside.sets c.in-Some.i _ room c.self.invariant)

pub returns-in-Some-clause-sets : goal.returns-in-Some-clause-sets
returns-in-Some-clause-sets c =
    let room = rw (← c.self.view_is) at c.requires.room c.in-Some.i c.in-Some.ensures.one in
    rw (← c.self.view_is, c.put.ensures)
    (put-single c.self.inside.sets c.args.r.now.a c.in-Some.i c.asked_alone.result (asked_alone c.args.left.now) room c.in-Some.ensures.one c.asked_alone.ensures)
