use Rattle.ls_shell.proofs.Vocabulary.{Folder, IsErrOf, StopsAt, Write, lines, subst, sym}
use Rattle.std.specs.declared.option.Option.{Option}
use Rattle.ls_shell.proofs.Followed.{OnErr_from}
use Rattle.ls_shell.proofs.Pieces.{stops_first}
use Rattle.ls_shell.proofs.Fetched.{never_write}
use Rattle.ls_shell.proofs.named.answer_whole.Goals as goal

pub returns-in_err-run-clause-stopped : goal.returns-in_err-run-clause-stopped
returns-in_err-run-clause-stopped g c =
    let faults = g.H.Shelf.faults c.args.shelf.now in
    let written = g.K.Sink.written c.args.out.now in
    let W = IsErrOf c.from_residual.result Write in
    OnErr_from c.from_residual.result (λ m told. subst (λ (o : Option Folder). StopsAt W m (lines c.args.script.now) o faults faults written written) (sym told) (stops_first W (never_write c.from_residual.result c.in_err-run.field-0.0 c.from_residual.ensures.1) m c.args.script.now faults written))
