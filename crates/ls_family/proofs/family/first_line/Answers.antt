use Rattle.ls_family.proofs.Vocabulary.{◌+◌, ◌<◌, ◌==◌, arith, length, length-drop, lines, take_rest}
use Rattle.ls_cutting.proofs.Cuts.{split_uncut, split_first}
use Rattle.ls_family.proofs.family.first_line.Goals as goal

pub returns-in-None : goal.returns-in-None
unfolding lines
returns-in-None c =
    let text = c.args.text.now in
    split_uncut (λ b. b == 10) text c.in-None.ensures.place

pub returns-in-Some : goal.returns-in-Some
unfolding lines
returns-in-Some c =
    let text = c.args.text.now in
    let end = c.in-Some.end in
    let at = c.in-Some.ensures.place in
    let within : end < length text = c.in-Some.ensures.within in
    rw (take_rest text (end + 1)) (split_first (λ b. b == 10) text end at, omega (arith, length-drop (end + 1) text))
