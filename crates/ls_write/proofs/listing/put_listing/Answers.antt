use Rattle.ls_write.proofs.Vocabulary.{◌++◌, ◌+◌, ◌-◌, ◌∙◌, ◌≡◌, ◌≤◌, [], append_assoc, arith, left_after, line_bytes, more_steps, refl, set_line, subst, sym}
use Rattle.ls_room.proofs.Saying.{says_as, says_nothing, says_then, says_void}
use Rattle.ls_write.proofs.Pages.{page_bytes, page-next, page-ended, page-full, some-left}
use Rattle.ls_write.proofs.listing.put_listing.Goals as goal

pub loop-done-init : goal.loop-done-init
loop-done-init g c = (
  [],
  record {
    said = says_nothing _ _ _;
    whole =
        let none : c.args.count - 0 ≡ c.args.count = omega arith in
        rw (c.new-states.ensures.cursor, c.new-states.ensures.family, none) refl;
    family = c.new-states.ensures.family;
    cost = omega (arith, c.new-states.ensures.steps);
    loan = refl;
  },
)

pub loop-done-preserved : goal.loop-done-preserved
loop-done-preserved g c =
    let n = g.I.Interior.item_count in
    let states = c.loop-done.states in
    let left = left_after states.cursor (g.I.Interior.members states.family.now) in
    let rest = left_after c.next.new.self.cursor (g.I.Interior.members c.next.new.self.family.now) in
    let text = set_line c.args.texts.now in
    let given = c.loop-done.invariant.0 in
    let before = c.loop-done.invariant.1 in
    let count = c.args.count in
    let done = c.loop-done._done in
    let whole = page_bytes text (left_after c.args.after (g.I.Interior.members c.args.f.now)) count in
    let cost = subst (λ f. c.next.new.self.steps.now ≤ states.steps.now + (n f + 1)) before.family c.next.ensures.cost in (
      given ++ line_bytes (text c.in-Some.set),
      record {
        said = says_then before.said c.put_set_line.ensures;
        whole = append_assoc given (line_bytes (text c.in-Some.set)) (page_bytes text rest (count - (done + 1)))
            ∙ page-next text given whole left count done before.whole c.in-Some.set rest c.in-Some.ensures.steps c.loop-done-test.true;
        family = c.next.ensures.family ∙ before.family;
        cost = more_steps states.steps.now c.next.new.self.steps.now c.args.steps.now done (n c.args.f.now + 1) before.cost cost;
        loan = c.next.ensures.loan ∙ before.loan;
      },
    )

pub returns-then-has_failed-clause-says : goal.returns-then-has_failed-clause-says
returns-then-has_failed-clause-says g c =
    let before = c.loop-done.invariant.1 in
    let left = left_after c.loop-done.states.cursor (g.I.Interior.members c.loop-done.states.family.now) in
    says_as before.whole (says_then before.said (says_void (page_bytes (set_line c.args.texts.now) left (c.args.count - c.loop-done._done)) (sym c.has_failed.ensures ∙ c.if-has_failed.true)))

pub returns-in_default-clause-says : goal.returns-in_default-clause-says
returns-in_default-clause-says g c =
    let text = set_line c.args.texts.now in
    let before = c.loop-done.invariant.1 in
    let left = left_after c.loop-done.states.cursor (g.I.Interior.members c.loop-done.states.family.now) in
    let whole = page_bytes text (left_after c.args.after (g.I.Interior.members c.args.f.now)) c.args.count in
    says_as (page-ended text c.loop-done.invariant.0 whole left c.args.count c.loop-done._done before.whole c.in_default.ensures.steps.0) (says_then before.said c.put_more.ensures)

pub returns-clause-says : goal.returns-clause-says
returns-clause-says g c =
    let text = set_line c.args.texts.now in
    let before = c.loop-done.invariant.1 in
    let left = left_after c.loop-done.states.cursor (g.I.Interior.members c.loop-done.states.family.now) in
    let rest = left_after c.next-2.new.self.cursor (g.I.Interior.members c.next-2.new.self.family.now) in
    let whole = page_bytes text (left_after c.args.after (g.I.Interior.members c.args.f.now)) c.args.count in
    let more = c.is_some-is_more.ensures ∙ some-left c.next-2.result left (λ k. k) (λ k. rest) (λ h. h.0) c.next-2.ensures.steps in
    says_as (page-full text c.loop-done.invariant.0 whole left c.args.count c.loop-done._done before.whole c.is_some-is_more.result more c.loop-done-test.false) (says_then before.said c.put_more-2.ensures)
