use Rattle.ls_base.proofs.Vocabulary.{◌∙◌, ap, is_same, length, minus, refl, slice_get_read}
use Rattle.ls_base.proofs.Vocabulary.{sym}
use Rattle.ls_base.specs.declared.left.Broken.{Broken}
use Rattle.ls_base.proofs.Gains.{broken-next, broken-passed}
use Rattle.ls_base.proofs.OwnItems.{after-place, among-place}
use Rattle.ls_base.proofs.left.broken_sets.Goals as goal
use Rattle.ls_base.proofs.left.broken_sets.Goals.{then-breaks+in_ok-push, else-breaks}

pub broken_in-requires : goal.broken_in-requires
broken_in-requires c =
    let sets = c.args.sets.now in
    let p = c.loop-place.place in
    let k = c.index-sets-place.result in
    record {
      needed =
          ap (λ u. is_same u k) (after-place sets _ p k c.requires.in_order c.loop-place-test.true
          c.index-sets-place.is refl)
          ∙ c.requires.needed k (among-place sets p k
          (slice_get_read sets (length sets) p k refl c.loop-place-test.true
          c.index-sets-place.is));
    }

pub loop-place-preserved : goal.loop-place-preserved
loop-place-preserved c =
    let sets = c.args.sets.now in
    let r = c.args.r.now in
    let p = c.loop-place.place in
    let k = c.index-sets-place.result in
    let got = c.loop-place.broken.items in
    elim c.if-breaks.branch [
      | then-breaks+in_ok-push w ↦
          let behind = after-place sets _ p k c.requires.in_order c.loop-place-test.true
          c.index-sets-place.is refl in
          ap (λ (v : _). v.items) w.broken-is ∙ w.in_ok-push.ensures.items
          ∙ broken-next sets r p k c.loop-place-test.true c.index-sets-place.is got
          c.loop-place.invariant w.broken_in.result
          (w.broken_in.ensures
          ∙ ap (λ u. let b : Broken = record { set = k; items = minus k u } in b) behind)
          (sym c.breaks.ensures ∙ w.if-breaks.true)
      | else-breaks w ↦ ap (λ (v : _). v.items) w.broken-is
          ∙ broken-passed sets r p k c.loop-place-test.true c.index-sets-place.is got
          c.loop-place.invariant (sym c.breaks.ensures ∙ w.if-breaks.false)
    ]
