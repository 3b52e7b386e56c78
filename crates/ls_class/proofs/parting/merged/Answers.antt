use Rattle.ls_class.proofs.Vocabulary.{◌+◌, ◌∙◌, ap, count_by_more_no, count_by_more_yes, has, not, sym}
use Rattle.ls_class.proofs.Parts.{next_known}
use Rattle.ls_class.proofs.parting.merged.Goals as goal
use Rattle.ls_class.proofs.parting.merged.Goals.{then-has+in_ok-push, else-has+in_ok-push-2}

pub loop-right-preserved : goal.loop-right-preserved
loop-right-preserved c =
    let q = c.args.q in
    let rights = c.args.rights.now in
    let i = c.loop-right.right-index in
    let k = c.right-item.result in
    let so_far = c.loop-right.invariant in
    let here = c.loop-right-test.true in
    elim c.if-has.branch [
      | then-has+in_ok-push w ↦
          let t = ap (λ s. has s q) (sym c.right-item.is) ∙ sym c.has.ensures ∙ w.if-has.true in
          rw (w.all-is, w.from_got-is, w.from_missed-is) (record {
            got = ap (λ n. n + 1) so_far.got ∙ sym (count_by_more_yes (λ s. has s q) rights i k here t);
            missed = so_far.missed ∙ sym (count_by_more_no (λ s. not (has s q)) rights i k here (ap not t));
            all = λ known g m. w.in_ok-push.ensures.items ∙ next_known known (λ s. has s q) rights i k c.args.got.now c.loop-right.all.items c.loop-right.from_got w.index-got-from_got.result here t so_far.got w.index-got-from_got.is g (so_far.all known g m);
          })
      | else-has+in_ok-push-2 w ↦
          let t = ap (λ s. has s q) (sym c.right-item.is) ∙ sym c.has.ensures ∙ w.if-has.false in
          rw (w.all-is, w.from_got-is, w.from_missed-is) (record {
            got = so_far.got ∙ sym (count_by_more_no (λ s. has s q) rights i k here t);
            missed = ap (λ n. n + 1) so_far.missed ∙ sym (count_by_more_yes (λ s. not (has s q)) rights i k here (ap not t));
            all = λ known g m. w.in_ok-push-2.ensures.items ∙ next_known known (λ s. not (has s q)) rights i k c.args.missed.now c.loop-right.all.items c.loop-right.from_missed w.index-missed-from_missed.result here (ap not t) so_far.missed w.index-missed-from_missed.is m (so_far.all known g m);
          })
    ]
