use Rattle.ls_session.proofs.Vocabulary.{Err, ap, line_effect-command, line_effect-fault, line_effect-long, refl, standing_session}
use Rattle.ls_state.proofs.Decided.{decides_as, decides_made, decides_nothing}
use Rattle.ls_session.proofs.decider.Decider.decide_line.Goals as goal

pub returns-then-line-gt-LONGEST_LINE : goal.returns-then-line-gt-LONGEST_LINE
returns-then-line-gt-LONGEST_LINE g c =
    decides_made (λ calls. line_effect-long (standing_session c.args.self.now.state) calls c.args.line.now c.if-line-gt-LONGEST_LINE.true) refl
    (record { response = refl; session = refl; undone = tt })

pub returns-in-Ok : goal.returns-in-Ok
returns-in-Ok g c =
    decides_as (λ calls. line_effect-command (standing_session c.args.self.now.state) calls c.args.line.now c.in-Ok.command c.if-line-gt-LONGEST_LINE.false c.in-Ok.ensures.read)
    c.decide-decided.ensures

pub returns-in-Err-Shape : goal.returns-in-Err-Shape
returns-in-Err-Shape g c =
    let at = c.in-Err-Shape.ensures.shape c.in-Err-Shape.place (ap Err c.in-Err-Shape.field-0-is) in
    decides_made (λ calls. line_effect-fault (standing_session c.args.self.now.state) calls c.args.line.now c.in-Err-Shape.place c.if-line-gt-LONGEST_LINE.false at.0 at.1) refl
    (record { response = refl; session = refl; undone = tt })

pub returns-in-Err-Memory : goal.returns-in-Err-Memory
returns-in-Err-Memory g c = decides_nothing
