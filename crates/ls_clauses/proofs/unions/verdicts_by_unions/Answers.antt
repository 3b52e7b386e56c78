use Rattle.ls_clauses.proofs.Verdicts.{verdict-by-unions, graded-by-base, graded-of_base, own_by-spanning, graded_by-spanning}
use Rattle.ls_clauses.proofs.unions.verdicts_by_unions.Goals as goal

pub returns : goal.returns
returns c = record { any = verdict-by-unions; space = graded-by-base; of_base = graded-of_base; own = λ f g k part span. own_by-spanning f g part span k; spanning = graded_by-spanning }
