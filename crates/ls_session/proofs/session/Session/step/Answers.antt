use Rattle.ls_session.proofs.Steps.{follows_silent}
use Rattle.ls_session.proofs.session.Session.step.Goals as goal

pub returns-then-is_passed : goal.returns-then-is_passed
returns-then-is_passed g c = record { follows = follows_silent (c.is_passed.ensures c.if-is_passed.true c.args.self.now) }
