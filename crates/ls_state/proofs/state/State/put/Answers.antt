use Rattle.ls_state.proofs.Vocabulary.{IsAfterLine, Session, ap, bytes_of, lines_of, says_as, state_session, subst, sym}
use Rattle.ls_state.proofs.Sayable.{can_say}
use Rattle.ls_state.proofs.state.State.put.Goals as goal

pub put_response-requires-clause-can : goal.put_response-requires-clause-can
put_response-requires-clause-can g c =
    can_say (subst (λ (s : Session). IsAfterLine s c.args.response.now) (sym c.self.view_is) c.requires) c.self.invariant.items c.standing.ensures.standing.sound

pub returns : goal.returns
returns g c =
    let i = c.self.inside in
    says_as (ap (λ (s : Session). bytes_of (lines_of s c.args.response.now)) c.self.view_is) (c.put_response.ensures.says (state_session i.texts i.inquiry i.settings i.pupils i.safe))
