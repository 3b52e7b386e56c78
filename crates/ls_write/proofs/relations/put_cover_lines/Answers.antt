use Rattle.ls_write.proofs.Vocabulary.{◌<◌, ◌≤◌, Line, List, Text, ap, arith, cover_line, length}
use Rattle.ls_write.proofs.Vocabulary.{lines_bytes, map, take_all}
use Rattle.ls_origins.specs.declared.cover.Cover.{Cover}
use Rattle.ls_origins.specs.Relations.{pair_of}
use Rattle.ls_room.proofs.Saying.{says_as, says_nothing, says_then}
use Rattle.ls_room.proofs.LineBytes.{lines-next}
use Rattle.ls_write.proofs.relations.put_cover_lines.Goals as goal

abbrev line_for : List Text → Cover → Line
line_for names c = cover_line names (pair_of c)

pub loop-cover-init : goal.loop-cover-init
loop-cover-init g c = says_nothing _ _ _

pub loop-cover-preserved : goal.loop-cover-preserved
loop-cover-preserved g c =
    let test : c.loop-cover.cover-index < length c.args.list.now = omega arith in
    says_as (lines-next (line_for c.args.texts.now) c.args.list.now c.loop-cover.cover-index _ test)
    (says_then c.loop-cover.invariant c.put_cover.ensures)

pub returns : goal.returns
returns g c =
    let test : length c.args.list.now ≤ c.loop-cover.cover-index = omega arith in
    says_as
    (ap (λ l. lines_bytes (map (line_for c.args.texts.now) l))
    (take_all c.loop-cover.cover-index c.args.list.now test)) c.loop-cover.invariant
