use Rattle.ls_clauses.proofs.Flaws.{flawless-ordered, meets-ordered, surmise-flawless}
use Rattle.ls_clauses.proofs.surmise.flawless_clauses_are_surmise_functions.Goals as goal

pub returns : goal.returns
returns c = record { ordered = flawless-ordered; meets = λ clauses ordered k sort. meets-ordered clauses ordered sort k; only = surmise-flawless }
