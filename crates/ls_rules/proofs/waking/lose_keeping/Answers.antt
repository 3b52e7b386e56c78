use Rattle.ls_rules.proofs.Vocabulary.{◌∙◌, is_same, not-false, not-true, sym}
use Rattle.ls_rules.proofs.Rounds.{lost_keep, keeps-all}
use Rattle.ls_rules.proofs.waking.lose_keeping.Goals as goal

pub returns-then-ne : goal.returns-then-ne
unfolding is_same
returns-then-ne c =
    let some = not-true (is_same c.meet-2.result c.empty.result) (sym c.ne.ensures ∙ c.if-ne.true) in
    lost_keep c.args.round.now.kept c.args.set c.args.keep (rw (c.meet-2.ensures, c.meet.ensures, c.empty.ensures) at some)

pub returns : goal.returns
unfolding is_same
returns c =
    let none = not-false (is_same c.meet-2.result c.empty.result) (sym c.ne.ensures ∙ c.if-ne.false) in
    let kept = keeps-all c.args.round.now.kept c.args.set c.args.keep (rw (c.meet-2.ensures, c.meet.ensures, c.empty.ensures) at none) in
    (c.lose_all.ensures, λ h. rw c.lose_all.ensures (kept h))
