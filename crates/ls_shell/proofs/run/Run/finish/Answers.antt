use Rattle.ls_shell.proofs.Vocabulary.{◌∙◌, IsErrOf, StepFault, arith, common_steps, refl, sym}
use Rattle.ls_session.specs.declared.step_fault.StepFault.TheVariants as fault
use Rattle.ls_shell.proofs.Answered.{stops_if}
use Rattle.ls_shell.proofs.Followed.{OnErr_from}
use Rattle.ls_shell.proofs.Taken.{short, finish_none, finish_more, finish_stops}
use Rattle.ls_shell.proofs.run.Run.finish.Goals as goal

pub returns-in_default-clause-answered : goal.returns-in_default-clause-answered
returns-in_default-clause-answered g c = λ m script faults start few a.
    finish_none m script c.args.self.now _ faults _ start _ a (c.in_default.ensures.ended a.pending a.held (short m script c.args.self.now _ faults _ start _ a few))

pub returns-in_err-answer-clause-stopped : goal.returns-in_err-answer-clause-stopped
returns-in_err-answer-clause-stopped g c = OnErr_from c.from_residual.result (λ m script faults start few a.
    let ends = c.in-Some.ensures.ended a.pending a.held (short m script c.args.self.now _ faults _ start _ a few) in
    stops_if _ _ m _ _ _ _ _ _ (λ e. let wrote : IsErrOf c.answer.result fault.Write = grind (arith, common_steps) in sym c.in_err-answer.was ∙ wrote)
    (finish_stops m script c.args.self.now _ faults _ start _ a c.in-Some.ended (record c.args.self.now { cutter = c.finish.new.self }) c.answer.new.self _ _ _ refl refl ends.1 StepFault fault.Write c.in_err-answer.field-0.0 c.in_err-answer.ensures.answered))

pub returns-clause-answered : goal.returns-clause-answered
returns-clause-answered g c = λ m script faults start few a.
    let ends = c.in-Some.ensures.ended a.pending a.held (short m script c.args.self.now _ faults _ start _ a few) in
    finish_more m script c.args.self.now _ faults _ start _ a c.in-Some.ended (record c.args.self.now { cutter = c.finish.new.self }) c.answer.new.self _ _ _ refl refl ends.1 StepFault fault.Write c.in_ok-answer.ensures.answered
