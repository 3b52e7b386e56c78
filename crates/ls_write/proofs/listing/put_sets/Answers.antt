use Rattle.ls_write.proofs.Vocabulary.{◌++◌, ◌<◌, ◌∙◌, ◌≤◌, ap, arith, length, line_bytes, lines_bytes, map, set_line, take, take_all}
use Rattle.ls_room.proofs.Saying.{says_as, says_nothing, says_then}
use Rattle.ls_room.proofs.LineBytes.{lines-next}
use Rattle.ls_write.proofs.listing.put_sets.Goals as goal

pub loop-set-init : goal.loop-set-init
loop-set-init g c = says_nothing _ _ _

pub loop-set-preserved : goal.loop-set-preserved
loop-set-preserved g c =
    let test : c.loop-set.set-index < length c.args.sets.now = omega arith in
    let names = c.args.texts.now in
    says_as (ap (λ s. lines_bytes (map (set_line names) (take c.loop-set.set-index c.args.sets.now)) ++ line_bytes (set_line names s)) c.set-item.is ∙ lines-next (set_line names) c.args.sets.now c.loop-set.set-index _ test)
    (says_then c.loop-set.invariant c.put_set_line.ensures)

pub returns : goal.returns
returns g c =
    let test : length c.args.sets.now ≤ c.loop-set.set-index = omega arith in
    says_as (ap (λ l. lines_bytes (map (set_line c.args.texts.now) l)) (take_all c.loop-set.set-index c.args.sets.now test)) c.loop-set.invariant
