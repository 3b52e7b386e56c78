use Rattle.ls_enum.proofs.Vocabulary.{◌+◌, ◌∙◌, ◌≤◌, subst, sym}
use Rattle.ls_enum.proofs.Left.{given-left, more-left, more_steps}
use Rattle.ls_enum.proofs.listing.page.Goals as goal

pub loop-given-preserved : goal.loop-given-preserved
loop-given-preserved g c =
    let i = c.loop-given.invariant in
    let n = g.I.Interior.item_count in
    let cost = subst (λ f. c.next.new.self.steps.now ≤ c.loop-given.states.steps.now + (n f + 1)) i.family c.next.ensures.cost in
    record {
      family = c.next.ensures.family ∙ i.family;
      sets = rw c.in_ok-push.ensures.ok (given-left c.loop-given.sets _ _ _ c.in-Some.set c.args.k c.loop-given._given c.in-Some.ensures.steps c.loop-given-test.true i.sets);
      more = sym (more-left _ _ c.in-Some.set c.args.k c.loop-given._given c.in-Some.ensures.steps c.loop-given-test.true) ∙ i.more;
      cost = more_steps _ _ _ c.loop-given._given (n c.args.f.now + 1) i.cost cost;
      loan = c.next.ensures.loan ∙ i.loan;
    }
