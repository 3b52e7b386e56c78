use Rattle.ls_cutting.proofs.LineEnds.{first_byte-position}
use Rattle.ls_cutting.proofs.cutter.line_end.Goals as goal

pub returns-clause-place : goal.returns-clause-place
returns-clause-place c = first_byte-position 10 c.args.piece.now c.memchr.result c.memchr.ensures
