use Rattle.ls_shell.proofs.Vocabulary.{◌∙◌, Follows, List, ℕ, line_effect, subst}
use Rattle.ls_session.specs.declared.step_fault.StepFault.TheVariants as fault
use Rattle.ls_state.specs.Decides.{shelf_state}
use Rattle.ls_shell.proofs.Followed.{whole_line, long_line, follows_moves}
use Rattle.ls_shell.proofs.run.Run.step.Goals as goal

pub returns-in-Whole-clause-answered : goal.returns-in-Whole-clause-answered
returns-in-Whole-clause-answered g c = λ line ended bytes.
    let session = c.args.self.now.session in
    subst
    (λ (l : List ℕ). Follows fault.Write (λ calls. line_effect session calls l) session c.step.new.self (shelf_state g.H.Shelf c.args.shelf.now) (shelf_state g.H.Shelf c.step.new.shelf)
    (g.K.Sink.written c.args.out.now) (g.K.Sink.written c.step.new.out) (g.K.Sink.faults c.args.out.now) (g.K.Sink.faults c.step.new.out) c.step.result)
    (whole_line c.args.ended line c.line.result.now c.in-Whole.is ended (c.line.ensures ∙ bytes)) c.step.ensures.follows

pub returns-in-Long-clause-answered : goal.returns-in-Long-clause-answered
returns-in-Long-clause-answered g c = λ line ended bytes.
    let long = long_line c.args.ended line c.in-Long.bytes c.in-Long.is ended in
    c.refuse_long.ensures.follows line long.0 long.1 (shelf_state g.H.Shelf c.args.shelf.now)

pub returns-in-Whole-clause-sink : goal.returns-in-Whole-clause-sink
returns-in-Whole-clause-sink g c = follows_moves c.step.ensures.follows
