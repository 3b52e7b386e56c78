use Rattle.std.proofs.Common.{ap, ◌∙◌, not}
use Rattle.std.specs.List.{list_all}
use Rattle.ls_origins.specs.Safe.{is_safe, safe, waiting}
use Rattle.ls_safe.proofs.Interviews.{safe-waits}
use Rattle.ls_safe.proofs.safe.Safe.answers.Goals as goal

pub returns-clause-waiting : goal.returns-clause-waiting
returns-clause-waiting c = λ n f queries i.
    ap (λ l. list_all (λ r. not (is_safe n (safe n f queries).family r)) (waiting l))
    (c.deref.ensures.value ∙ ap (λ s. s.answers) c.self.view_is)
    ∙ safe-waits n f queries c.args.self.now i
