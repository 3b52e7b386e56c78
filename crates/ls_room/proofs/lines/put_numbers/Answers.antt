use Rattle.ls_room.proofs.Vocabulary.{◌<◌, ◌∷◌, ◌≤◌, ap, arith, decimal, flat_map, length, spaced-next, take_all}
use Rattle.ls_room.proofs.Saying.{says_as, says_nothing, says_then}
use Rattle.ls_room.proofs.lines.put_numbers.Goals as goal

pub loop-number-init : goal.loop-number-init
loop-number-init g c = says_nothing _ _ _

pub loop-number-preserved : goal.loop-number-preserved
loop-number-preserved g c =
    let test : c.loop-number.number-index < length c.args.numbers.now = omega arith in
    says_as (spaced-next decimal c.args.numbers.now c.loop-number.number-index _ test) (says_then (says_then c.loop-number.invariant c.space.ensures) c.put_number.ensures)

pub returns : goal.returns
returns g c =
    let test : length c.args.numbers.now ≤ c.loop-number.number-index = omega arith in
    says_as (ap (λ ns. flat_map (λ n. 32 ∷ decimal n) ns) (take_all c.loop-number.number-index c.args.numbers.now test)) c.loop-number.invariant
