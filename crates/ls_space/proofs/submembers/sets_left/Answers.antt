use Rattle.ls_space.proofs.Vocabulary.{◌+◌, ◌<◌, ◌∙◌, IsInOrder, ap, arith, empty, get_or}
use Rattle.ls_space.proofs.Vocabulary.{get_or_from_slice_get, is_union_of_next, length}
use Rattle.ls_space.proofs.Vocabulary.{length-map-range_with_len, needed, slice_get-get_or, subst}
use Rattle.ls_space.proofs.Vocabulary.{sym}
use Rattle.ls_space.proofs.Passing.{IsKept, kept-all, kept-in_order, kept-passed, kept-taken}
use Rattle.ls_space.proofs.Passing.{needed-kept, told-at}
use Rattle.ls_space.proofs.submembers.sets_left.Goals as goal
use Rattle.ls_space.proofs.submembers.sets_left.Goals.{then-not-unions-place+in_ok-push}
use Rattle.ls_space.proofs.submembers.sets_left.Goals.{else-not-unions-place}

pub bounds-unions-place : goal.bounds-unions-place
bounds-unions-place c =
    omega (
      arith,
      ap length c.requires.unions,
      length-map-range_with_len (is_union_of_next
          c.args.sets.now) 0 (length c.args.sets.now),
    )

pub loop-place-preserved : goal.loop-place-preserved
loop-place-preserved c =
    let f = c.args.sets.now in
    let i = c.loop-place.place in
    let l : i < length f = omega arith in
    elim c.if-not-unions-place.branch [
      | then-not-unions-place+in_ok-push w ↦
          kept-taken c.loop-place.left.items f i w.index-sets-place.result l w.index-sets-place.is
          c.loop-place.invariant c.if-not-unions-place.left.items
          (ap (λ v. v.items) w.left-is ∙ w.in_ok-push.ensures.items) (sym (told-at f
          c.args.unions.now i _ l c.requires.unions) ∙ w.if-not-unions-place.true)
      | else-not-unions-place w ↦
          let k = get_or f i empty in
          subst (λ v. IsKept v.items f (i + 1)) (sym w.left-is)
          (kept-passed c.loop-place.left.items f i k l (sym (get_or_from_slice_get f i k k
          (slice_get-get_or f i empty l))) c.loop-place.invariant
          (sym (told-at f c.args.unions.now i _ l c.requires.unions) ∙ w.if-not-unions-place.false))
    ]

pub returns-clause-in_order : goal.returns-clause-in_order
returns-clause-in_order c =
    subst IsInOrder (sym (kept-all c.loop-place.left.items c.args.sets.now c.loop-place.place
    c.loop-place-test.false c.loop-place.invariant)) (kept-in_order c.args.sets.now
    c.requires.in_order)

pub returns-clause-needed : goal.returns-clause-needed
returns-clause-needed c =
    ap needed (kept-all c.loop-place.left.items c.args.sets.now c.loop-place.place
    c.loop-place-test.false c.loop-place.invariant) ∙ needed-kept c.args.sets.now
    c.requires.in_order
