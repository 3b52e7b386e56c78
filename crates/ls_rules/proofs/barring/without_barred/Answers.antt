use Rattle.ls_rules.proofs.Vocabulary.{◌∙◌, get_or, is_same, refl, sym}
use Rattle.ls_rules.proofs.Barred.{barred-took, barred-passed, barred-end}
use Rattle.ls_rules.proofs.barring.without_barred.Goals as goal
use Rattle.ls_rules.proofs.barring.without_barred.Goals.{then-eq, else-eq}

pub loop-place-preserved : goal.loop-place-preserved
unfolding is_same
loop-place-preserved c =
    let i = c.loop-place.place-index in
    let rules = c.args.rules.now in
    let places = c.args.places.now in
    let p = get_or places i 0 in
    let r = c.index-rules-place.result in
    let set = c.args.set in
    let left = c.loop-place.left in
    let small = c.requires.places i 0 c.loop-place-test.true in
    let test = rw (c.meet.ensures, c.empty.ensures) at c.eq.ensures in
    elim c.if-eq.branch [
      | then-eq w ↦ rw (w.left-is, w.without-left.ensures) (barred-took rules places i p r set left _ c.loop-place-test.true refl small c.index-rules-place.is (sym test ∙ w.if-eq.true) c.loop-place.invariant)
      | else-eq w ↦ rw w.left-is (barred-passed rules places i p r set left _ c.loop-place-test.true refl small c.index-rules-place.is (sym test ∙ w.if-eq.false) c.loop-place.invariant)
    ]

pub returns : goal.returns
returns c = barred-end c.args.rules.now c.args.places.now c.loop-place.place-index c.args.set c.loop-place.left c.loop-place-test.false ∙ c.loop-place.invariant
