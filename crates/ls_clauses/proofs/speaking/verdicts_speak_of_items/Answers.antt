use Rattle.ls_clauses.proofs.Spoken.{base_verdict-on, verdict-on}
use Rattle.ls_clauses.proofs.speaking.verdicts_speak_of_items.Goals as goal

pub returns-clause-space : goal.returns-clause-space
returns-clause-space c = λ n whole f. base_verdict-on n f whole

pub returns-clause-any : goal.returns-clause-any
returns-clause-any c = verdict-on
