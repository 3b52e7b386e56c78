use Rattle.ls_base.proofs.Vocabulary.{◌+◌, ◌<◌, ◌∙◌, Decides-is_same, IsWithin-from, arith, is_same}
use Rattle.ls_base.proofs.Vocabulary.{len, sym}
use Rattle.ls_base.proofs.Grouped.{joined-all, joined-ended, joined-passed, joined-taken}
use Rattle.ls_base.proofs.Grouped.{joined-whole}
use Rattle.ls_base.proofs.Rising.{not_within-not_proper, smaller-proper}
use Rattle.ls_base.proofs.groups.joined.Goals as goal
use Rattle.ls_base.proofs.groups.joined.Goals.{then-is_within+else-eq, else-is_within}

pub returns-then-len-size : goal.returns-then-len-size
returns-then-len-size c =
    joined-ended c.args.first c.args.s c.args.sets.now c.loop-set.set-index c.loop-set.joined
    c.set-item.result c.loop-set-test.true c.set-item.is c.loop-set.invariant c.requires.rises
    (omega (arith, c.len.ensures, c.len-size.ensures, c.if-len-size.true))

pub returns-then-eq : goal.returns-then-eq
unfolding is_same
returns-then-eq c =
    let s = c.args.s in
    let l = c.set-item.result in
    let less : len l < len s = omega (arith, c.len.ensures, c.len-size.ensures, c.if-len-size.false)
    in
    let taken =
    joined-taken c.args.first s c.args.sets.now c.loop-set.set-index c.loop-set.joined l
    c.loop-set-test.true c.set-item.is c.loop-set.invariant c.union-joined.result
    (smaller-proper l s (IsWithin-from l s (sym c.is_within.ensures ∙ c.if-is_within.true)) less)
    c.union-joined.ensures in
    joined-whole c.args.first s c.union-joined.result c.args.sets.now (c.loop-set.set-index + 1)
    taken
    ((Decides-is_same c.union-joined.result s).0 (sym c.eq.ensures ∙ c.if-eq.true))

pub loop-set-preserved : goal.loop-set-preserved
loop-set-preserved c =
    let s = c.args.s in
    let l = c.set-item.result in
    let less : len l < len s = omega (arith, c.len.ensures, c.len-size.ensures, c.if-len-size.false)
    in
    elim c.if-is_within.branch [
      | then-is_within+else-eq w ↦
          joined-taken c.args.first s c.args.sets.now c.loop-set.set-index c.loop-set.joined l
          c.loop-set-test.true c.set-item.is c.loop-set.invariant c.if-is_within.joined
          (smaller-proper l s (IsWithin-from l s (sym c.is_within.ensures ∙ w.if-is_within.true))
          less) (w.joined-is ∙ w.union-joined.ensures)
      | else-is_within w ↦
          joined-passed c.args.first s c.args.sets.now c.loop-set.set-index c.loop-set.joined l
          c.loop-set-test.true c.set-item.is c.loop-set.invariant c.if-is_within.joined
          (not_within-not_proper l s (sym c.is_within.ensures ∙ w.if-is_within.false)) w.joined-is
    ]

pub returns : goal.returns
returns c = joined-all c.args.first c.args.s c.args.sets.now c.loop-set.set-index c.loop-set.joined
    c.loop-set-test.false c.loop-set.invariant
