use Rattle.ls_lines.proofs.Apart.{told_apart}
use Rattle.ls_lines.proofs.laws.forms_are_told_apart.Goals as goal

pub returns : goal.returns
returns c = told_apart
