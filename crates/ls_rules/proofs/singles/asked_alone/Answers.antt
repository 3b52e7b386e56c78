use Rattle.ls_rules.proofs.Vocabulary.{◌∙◌, ◌≡◌, ap, asked_alone, drop_all, is_same, single, sym, union, union-empty_left, union-empty_right, with}
use Rattle.ls_rules.proofs.Alone.{with-empty, asked-step}
use Rattle.ls_rules.proofs.singles.asked_alone.Goals as goal
use Rattle.ls_rules.proofs.singles.asked_alone.Goals.{then-eq, else-eq}

pub loop-rule-init : goal.loop-rule-init
loop-rule-init c = rw c.empty-asked.ensures (union-empty_left (asked_alone c.args.rules.now c.args.i))

pub loop-rule-preserved : goal.loop-rule-preserved
unfolding is_same
loop-rule-preserved c =
    let i = c.args.i in
    let r = c.rule-item.result in
    let step = asked-step c.args.rules.now c.loop-rule.rule-index i r c.loop-rule.asked _ c.loop-rule-test.true c.rule-item.is c.loop-rule.invariant in
    let alone_is = c.with-alone.ensures ∙ ap (λ s. with s i) c.empty.ensures ∙ with-empty i in
    let test : c.eq.result ≡ is_same r.a (single i) = c.eq.ensures ∙ ap (is_same r.a) alone_is in
    elim c.if-eq.branch [
      | then-eq w ↦ rw (w.asked-is, w.with-asked.ensures) (rw (sym test ∙ w.if-eq.true) at step)
      | else-eq w ↦ rw w.asked-is (rw (sym test ∙ w.if-eq.false) at step)
    ]

pub returns : goal.returns
returns c =
    let none = drop_all c.loop-rule.rule-index c.args.rules.now c.loop-rule-test.false in
    sym (union-empty_right c.loop-rule.asked) ∙ ap (λ l. union c.loop-rule.asked (asked_alone l c.args.i)) (sym none) ∙ c.loop-rule.invariant
