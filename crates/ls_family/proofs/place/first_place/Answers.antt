use Rattle.ls_family.proofs.Parts.{first_byte-position}
use Rattle.ls_family.proofs.place.first_place.Goals as goal

pub returns-clause-place : goal.returns-clause-place
returns-clause-place c = first_byte-position c.args.byte c.args.bytes.now c.memchr.result c.memchr.ensures
