use Rattle.ls_base.proofs.Vocabulary.{◌+◌, ◌∙◌, subst, sym, ap}
use Rattle.ls_base.specs.Groups.{IsGrouped}
use Rattle.ls_base.specs.declared.groups.Found.{Found}
use Rattle.ls_base.proofs.Rising.{IsWalked, walked-all, walked-passed, walked-rises, walked-taken}
use Rattle.ls_base.proofs.reduction.needed_by_size.Goals as goal
use Rattle.ls_base.proofs.reduction.needed_by_size.Goals.{then-not-has_union+in_ok-push}
use Rattle.ls_base.proofs.reduction.needed_by_size.Goals.{else-not-has_union}

pub push-requires-clause-rises : goal.push-requires-clause-rises
push-requires-clause-rises c =
    walked-rises c.args.sets.now c.loop-set.found.sets.items c.loop-set.set-index c.set-item.result
    c.requires.rises c.loop-set-test.true c.set-item.is c.loop-set.invariant.walked

pub loop-set-preserved : goal.loop-set-preserved
loop-set-preserved c =
    let sets = c.args.sets.now in
    let i = c.loop-set.set-index in
    let old = c.loop-set.found.sets.items in
    elim c.if-not-has_union.branch [
      | then-not-has_union+in_ok-push w ↦ record {
        grouped = subst IsGrouped (sym w.found-is) w.in_ok-push.ensures.grouped;
        walked =
            walked-taken sets old i c.set-item.result c.requires.rises c.loop-set-test.true
            c.set-item.is c.loop-set.invariant.walked c.if-not-has_union.found.sets.items
            (ap (λ (f : Found). f.sets.items) w.found-is ∙ w.in_ok-push.ensures.sets) (sym
            c.has_union.ensures ∙ w.if-not-has_union.true);
      }
      | else-not-has_union w ↦ record {
        grouped = subst IsGrouped (sym w.found-is) c.loop-set.invariant.grouped;
        walked =
            subst (λ (f : Found). IsWalked f.sets.items sets (i + 1)) (sym w.found-is)
            (walked-passed sets old i c.set-item.result c.requires.rises c.loop-set-test.true
            c.set-item.is c.loop-set.invariant.walked (sym c.has_union.ensures ∙
            w.if-not-has_union.false));
      }
    ]

pub returns : goal.returns
returns c = walked-all c.args.sets.now c.loop-set.found.sets.items c.loop-set.set-index
    c.loop-set-test.false c.loop-set.invariant.walked
