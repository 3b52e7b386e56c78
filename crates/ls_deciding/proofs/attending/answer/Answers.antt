use Rattle.ls_deciding.specs.Cases.{safe_of_case}
use Rattle.ls_origins.specs.Safe.{first_family}
use Rattle.ls_deciding.proofs.Answered.{case_is, next_is}
use Rattle.ls_deciding.proofs.attending.answer.Goals as goal

pub returns-in-Ok-clause-next : goal.returns-in-Ok-clause-next
returns-in-Ok-clause-next c = λ n h.
    let s = safe_of_case c.args.case.now in
    let f = first_family n s in
    next_is n s c.args.query c.answer.new.self (c.in-Ok.ensures.answered n f s.answers h)
    (c.in-Ok.ensures.accepted n f s.answers h)

pub returns-in-Ok-clause-case : goal.returns-in-Ok-clause-case
returns-in-Ok-clause-case c = λ n h.
    let s = safe_of_case c.args.case.now in
    case_is n s c.args.query c.answer.new.self
    (c.in-Ok.ensures.answered n (first_family n s) s.answers h)
