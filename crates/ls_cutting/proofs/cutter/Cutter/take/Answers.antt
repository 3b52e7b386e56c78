use Rattle.ls_cutting.proofs.Vocabulary.{◌+◌, ◌-◌, ◌<◌, ◌==◌, ◌∙◌, ◌≡◌, IfSome, arith, length, length-take, lines, refl, subst, sym}
use Rattle.ls_cutting.proofs.Cuts.{split_uncut, split_first}
use Rattle.ls_cutting.proofs.cutter.Cutter.take.Goals as goal

pub returns-in-None-clause-taken : goal.returns-in-None-clause-taken
unfolding lines
returns-in-None-clause-taken c = λ pending h room.
    (refl, split_uncut (λ b. b == 10) c.args.piece.now (sym c.in-None.is ∙ c.line_end.ensures.place), c.hold.ensures pending h room)

pub returns-in-Some-clause-taken : goal.returns-in-Some-clause-taken
unfolding lines
returns-in-Some-clause-taken c = λ pending h room.
    let i = c.in-Some.i in
    let piece = c.args.piece.now in
    let within : i < length piece = subst (λ o. IfSome o (λ j. j < length piece)) c.in-Some.is c.line_end.ensures.within in
    let back : i + 1 - 1 ≡ i = omega arith in
    rw back (omega arith, omega arith, split_first (λ b. b == 10) piece i (sym c.in-Some.is ∙ c.line_end.ensures.place), c.end.ensures _ (c.hold-in-Some.ensures pending h (omega (arith, length-take i piece))))
