use Rattle.std.proofs.Common.{◌∙◌, ◌≡◌, false, refl, sym, ap, length}
use Rattle.std.proofs.Math.Bool.{and-false}
use Rattle.ls_set.specs.ItemSet.{has}
use Rattle.ls_origins.specs.Relations.{below_of}
use Rattle.ls_order.proofs.Finding.{passed-next}
use Rattle.ls_order.proofs.Rows.{row-read}
use Rattle.ls_order.proofs.Surmised.{is_quasi}
use Rattle.ls_order.proofs.surmising.quasi_after.Goals as goal
use Rattle.ls_order.proofs.surmising.quasi_after.Goals.{else-has-via-then-has+else-has-2}
use Rattle.ls_order.proofs.surmising.quasi_after.Goals.{else-has-via-else-has}

pub loop-second-preserved : goal.loop-second-preserved
loop-second-preserved c =
    let below = c.args.below.now in
    let first = c.args.first in
    let second = c.loop-second.second in
    let row =
    row-read below first c.index-below-first.result c.requires.item c.index-below-first.is in
    let other =
    row-read below second c.index-below-second.result c.loop-second-test.true
    c.index-below-second.is in
    let apart : is_quasi below (first, second) ≡ false =
    elim c.else-has.branch [
      | else-has-via-then-has+else-has-2 w ↦
          let no : has (below_of below first) second ≡ false =
          ap (λ s. has s second) (sym row) ∙ sym w.has-then-has.ensures ∙ w.if-has-2.false in
          rw no (and-false (has (below_of below second) first))
      | else-has-via-else-has w ↦
          let no : has (below_of below second) first ≡ false =
          ap (λ s. has s first) (sym other) ∙ sym c.has.ensures ∙ w.if-has.false in
          rw no refl
    ] in
    sym
    (passed-next (λ q. is_quasi below (first, q)) second (length below) c.loop-second-test.true
    apart)
    ∙ c.loop-second.invariant
