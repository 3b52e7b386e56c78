use Rattle.ls_room.proofs.Vocabulary.{◌<◌, ◌≤◌, ap, arith, join_next, join_with_byte, length, map, take_all}
use Rattle.ls_room.proofs.Saying.{says_as, says_nothing, says_then}
use Rattle.ls_room.proofs.lines.put_joined.Goals as goal

pub loop-i-init : goal.loop-i-init
loop-i-init g c = says_nothing _ _ _

pub loop-i-preserved : goal.loop-i-preserved
loop-i-preserved g c =
    let test : c.loop-i.i < length c.args.words.now = omega arith in
    says_as (join_next (λ w. w.now) c.args.words.now c.loop-i.i _ test) (says_then c.loop-i.invariant c.put_word.ensures)

pub returns : goal.returns
returns g c =
    let test : length c.args.words.now ≤ c.loop-i.i = omega arith in
    says_as (ap (λ ws. join_with_byte 32 (map (λ w. w.now) ws)) (take_all c.loop-i.i c.args.words.now test)) c.loop-i.invariant
