use Rattle.ls_shell.proofs.Vocabulary.{[], appends_none}
use Rattle.ls_session.specs.declared.step_fault.StepFault.TheVariants as fault
use Rattle.ls_shell.proofs.Pieces.{stops_none}
use Rattle.ls_shell.proofs.Taking.{takes_stopped}
use Rattle.ls_shell.proofs.reading.answer_source.Goals as goal

pub returns-in_err-run : goal.returns-in_err-run
returns-in_err-run g c = takes_stopped {W = ⊥} c.from_residual.result (fault.Memory c.in_err-run.field-0.0) c.from_residual.ensures.1 (λ w. cc w) (λ w. absurd (cc w))
    (stops_none (g.S.Source.left c.args.src.now) (g.H.Shelf.files c.args.shelf.now) (g.H.Shelf.faults c.args.shelf.now) (g.K.Sink.written c.args.out.now) ⊥ (λ e. e))
    ([], appends_none (g.K.Sink.written c.args.out.now))
