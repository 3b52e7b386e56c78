use Rattle.ls_session.proofs.Vocabulary.{IsAfterLine, Option, Session, standing_session, subst}
use Rattle.ls_state.proofs.Sayable.{nothing_shown}
use Rattle.ls_session.proofs.decider.Decider.put.Goals as goal

pub put_bare-requires : goal.put_bare-requires
put_bare-requires g c = nothing_shown (subst (λ (o : Option Session). IsAfterLine (standing_session o) c.args.response.now) c.in-None.is c.requires)
