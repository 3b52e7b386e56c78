use Rattle.ls_write.proofs.Vocabulary.{◌++◌, ◌<◌, ◌∙◌, ◌≤◌, ClassResult, Line, List, Text, ap, arith, length, line_bytes, lines_bytes, map, result_line, result_of, take, take_all}
use Rattle.ls_room.proofs.Saying.{says_as, says_nothing, says_then}
use Rattle.ls_room.proofs.LineBytes.{lines-next}
use Rattle.ls_write.proofs.classes.put_results.Goals as goal

abbrev line_for : List Text → ClassResult → Line
line_for names r = result_line names (result_of r)

pub loop-known-init : goal.loop-known-init
loop-known-init g c = says_nothing _ _ _

pub loop-known-preserved : goal.loop-known-preserved
loop-known-preserved g c =
    let test : c.loop-known.known-index < length c.args.list.now = omega arith in
    let names = c.args.texts.now in
    says_as (ap (λ r. lines_bytes (map (line_for names) (take c.loop-known.known-index c.args.list.now)) ++ line_bytes (line_for names r)) c.known-item.is ∙ lines-next (line_for names) c.args.list.now c.loop-known.known-index _ test)
    (says_then c.loop-known.invariant c.put_result.ensures)

pub returns : goal.returns
returns g c =
    let test : length c.args.list.now ≤ c.loop-known.known-index = omega arith in
    says_as (ap (λ l. lines_bytes (map (line_for c.args.texts.now) l)) (take_all c.loop-known.known-index c.args.list.now test)) c.loop-known.invariant
