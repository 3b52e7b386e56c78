use Rattle.ls_lines.proofs.Exact.{line_exact, begun_exact}
use Rattle.ls_lines.proofs.laws.forms_are_exact.Goals as goal

pub returns-clause-line : goal.returns-clause-line
returns-clause-line c = line_exact

pub returns-clause-begun : goal.returns-clause-begun
returns-clause-begun c = begun_exact
