use Rattle.ls_session.proofs.Vocabulary.{[], ◌∙◌, Effect, Fetched, List, Ok, Refusal, Session, ℕ, ap, changes, open_row, opened_by, refl, session_of, standing_session, sym}
use Rattle.ls_state.proofs.Decided.{makes_as}
use Rattle.ls_state.proofs.Fetched.{decides_read, decides_unfetched, decides_unread}
use Rattle.ls_session.proofs.decider.Decider.reopen.Goals as goal

abbrev opens : Session → Fetched → Effect
opens s given = changes (open_row s given)

abbrev takes_up : Session → List Refusal → List ℕ → Effect
takes_up s refusals bytes = changes (opened_by s refusals (session_of bytes))

pub returns-in_err-bytes : goal.returns-in_err-bytes
returns-in_err-bytes g c =
    let s = standing_session c.args.self.now.state in
    decides_unfetched (opens s) (takes_up s) (λ given. refl) (λ refusal bytes. refl) (λ refusals bytes. refl) c.args.file.now c.fetch.ensures _ c.from_residual.result c.from_residual.ensures.1

pub returns-in-Ok : goal.returns-in-Ok
returns-in-Ok g c =
    let s = standing_session c.args.self.now.state in
    decides_read (opens s) (takes_up s) (λ given. refl) (λ refusal bytes. refl) (λ refusals bytes. refl) c.fetch.ensures (c.in_ok-bytes.was ∙ ap Ok c.in-Ok.is)
    (makes_as (ap (takes_up s []) (sym c.deref.ensures.value)) c.open_bytes.ensures)

pub returns-in-Err : goal.returns-in-Err
returns-in-Err g c =
    let s = standing_session c.args.self.now.state in
    decides_unread (opens s) (takes_up s) (λ given. refl) (λ refusal bytes. refl) (λ refusals bytes. refl) c.fetch.ensures (c.in_ok-bytes.was ∙ ap Ok c.in-Err.is)
