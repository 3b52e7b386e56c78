use Rattle.std.proofs.Common.{ap}
use Rattle.std.proofs.lemmas.Result.{on_err_weaker}
use Rattle.ls_deciding.specs.Cases.{safe_interview}
use Rattle.ls_deciding.proofs.safe.ask_safe.Goals as goal

pub returns-else-is_opening-clause-change : goal.returns-else-is_opening-clause-change
returns-else-is_opening-clause-change c =
    let e = c.attend_safe.ensures in
    let i = c.args.inquiry.now in
    record {
      response = e.response i c.requires.case;
      next = e.next i c.requires.case;
      undone = on_err_weaker c.attend_safe.result (λ same. ap safe_interview same) e.err;
    }
