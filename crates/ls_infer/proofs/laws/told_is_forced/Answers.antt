use Rattle.ls_infer.proofs.WithinFamily.{told_yes, told_no, told_open, told_number}
use Rattle.ls_infer.proofs.laws.told_is_forced.Goals as goal

pub returns : goal.returns
returns c = record { with_yes = told_yes; with_no = told_no; unsettled = told_open; number = told_number }
