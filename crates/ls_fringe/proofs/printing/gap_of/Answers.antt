use Rattle.ls_fringe.proofs.Vocabulary.{ap, gap, sym}
use Rattle.ls_set.proofs.Firsts.{items-least}
use Rattle.ls_fringe.proofs.printing.gap_of.Goals as goal

pub returns-in-Some : goal.returns-in-Some
returns-in-Some c = sym (ap gap (items-least c.args.s c.in-Some.field-0 (sym c.in-Some.ensures.value)))
