use Rattle.ls_rules.proofs.Vocabulary.{◌∙◌, ap, set_at, with}
use Rattle.ls_rules.proofs.Alone.{put-single, CoversSets-put}
use Rattle.ls_rules.proofs.singles.Singles.push.Goals as goal

pub invariant_of-self : goal.invariant_of-self
invariant_of-self c =
    let room = rw (← c.self.view_is) at c.requires.room c.in-Some.i c.in-Some.ensures.one in
    rw (c.with-self-inside.ensures, c.put.ensures) (CoversSets-put c.self.inside.items c.self.inside.sets c.in-Some.i _ room c.self.invariant)

pub returns-in-Some-clause-sets : goal.returns-in-Some-clause-sets
returns-in-Some-clause-sets c =
    let room = rw (← c.self.view_is) at c.requires.room c.in-Some.i c.in-Some.ensures.one in
    let sets = c.self.inside.sets in
    let q = c.args.r.now.q in
    rw (← c.self.view_is, c.put.ensures)
    (put-single sets c.args.r.now.a c.in-Some.i c.with-items.result (λ j. with (set_at sets j) q) room c.in-Some.ensures.one (c.with-items.ensures ∙ ap (λ s. with s q) c.of.ensures))
