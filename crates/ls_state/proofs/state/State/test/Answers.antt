use Rattle.ls_state.proofs.Vocabulary.{[], ◌<◌, ◌∙◌, ◌≡◌, Decides, Effect, Fetched, IfOk, List, Ok, Refusal, Response, Session, Text, ℕ, answers, ap, ap₂, bytes_fetched, file_refusals, in_domain, in_domain-some, length, refl, sets_of, shelf_state, state_session, subst, test_row, tested_by}
use Rattle.ls_state.proofs.Decided.{makes_response, some_names}
use Rattle.ls_state.proofs.Fetched.{decides_read, decides_unfetched, decides_unread}
use Rattle.ls_state.proofs.state.State.test.Goals as goal

abbrev whole : Session → Fetched → Effect
whole s given = in_domain s (answers s (test_row s.names given))

abbrev shown : Session → List Refusal → List ℕ → Response
shown s refusals bytes = tested_by (length s.names) refusals (sets_of s.names bytes)

abbrev shows : Session → List Refusal → List ℕ → Effect
shows s refusals bytes = answers s (shown s refusals bytes)

whole-shows : (s : Session) → 0 < length s.names → (given : Fetched) → whole s given ≡ shows s (file_refusals given) (bytes_fetched given)
whole-shows s some given = in_domain-some s _ some

pub returns-in_err-bytes : goal.returns-in_err-bytes
returns-in_err-bytes g c =
    let s = c.args.self.now in
    decides_unfetched (whole s) (shows s) (whole-shows s (some_names c.self.view_is c.self.invariant.some)) (λ refusal bytes. refl) (λ refusals bytes. refl) c.args.file.now c.fetch.ensures _ c.from_residual.result c.from_residual.ensures.1

pub returns-in-Ok : goal.returns-in-Ok
returns-in-Ok g c =
    let i = c.self.inside in
    let s = state_session i.texts i.inquiry i.settings i.pupils i.safe in
    let read = ap₂ (λ (names : List Text) (bytes : List ℕ). tested_by (length names) [] (sets_of names bytes)) c.domain-domain.ensures c.deref.ensures.value in
    subst (λ (x : Session). Decides (λ calls. whole x (calls.file c.args.file.now)) x x (shelf_state g.H.Shelf c.args.shelf.now) (shelf_state g.H.Shelf c.fetch.new.shelf) c.test_sets.result) c.self.view_is
    (decides_read (whole s) (shows s) (whole-shows s c.self.invariant.some) (λ refusal bytes. refl) (λ refusals bytes. refl) c.fetch.ensures (c.in_ok-bytes.was ∙ ap Ok c.in-Ok.is)
    (makes_response c.test_sets.result (subst (λ (x : Response). IfOk c.test_sets.result (λ r. r ≡ x)) read c.test_sets.ensures)))

pub returns-in-Err : goal.returns-in-Err
returns-in-Err g c =
    let s = c.args.self.now in
    decides_unread (whole s) (shows s) (whole-shows s (some_names c.self.view_is c.self.invariant.some)) (λ refusal bytes. refl) (λ refusals bytes. refl) c.fetch.ensures (c.in_ok-bytes.was ∙ ap Ok c.in-Err.is)
