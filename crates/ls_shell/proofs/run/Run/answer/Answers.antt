use Rattle.ls_shell.proofs.Vocabulary.{◌||◌, ap, arith, common_steps, refl}
use Rattle.ls_session.specs.declared.step_fault.StepFault.TheVariants as fault
use Rattle.ls_shell.proofs.Followed.{line_answered, line_begun}
use Rattle.ls_shell.proofs.run.Run.answer.Goals as goal

pub returns-in_err-is_refusal-clause-answered : goal.returns-in_err-is_refusal-clause-answered
returns-in_err-is_refusal-clause-answered g c = λ line ended bytes m told.
    line_begun fault.Write line c.args.self.now c.step.new.self _ _ _ _ _ _ _ c.step.result m c.from_residual.result _ c.in_err-is_refusal.was c.from_residual.ensures.0 (λ e. grind (arith, common_steps)) told (c.step.ensures.answered line ended bytes)

pub returns-clause-answered : goal.returns-clause-answered
returns-clause-answered g c = λ line ended bytes m told.
    let refused = c.in_ok-is_refusal.is_refusal in
    line_answered fault.Write line c.args.self.now (record c.step.new.self { is_refused = c.step.new.self.is_refused || refused }) c.step.new.self.session _ _ _ _ _ _ c.step.result m refused c.in_ok-is_refusal.was refl c.step.ensures.cutter
    (ap (λ b. b || refused) c.step.ensures.before) told (c.step.ensures.answered line ended bytes)
