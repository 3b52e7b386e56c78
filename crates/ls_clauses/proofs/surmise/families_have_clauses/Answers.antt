use Rattle.ls_clauses.proofs.FamilyClauses.{clauses-at, family-surmise, family-met, cover-surmise, cover-met}
use Rattle.ls_clauses.proofs.surmise.families_have_clauses.Goals as goal

pub returns : goal.returns
returns c = record { atoms = clauses-at; surmise = family-surmise; met = family-met; of_sets = cover-surmise; of_sets_met = λ n sets _. cover-met n sets }
