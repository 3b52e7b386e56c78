use Rattle.ls_state.proofs.Vocabulary.{[], ◌<◌, ◌∙◌, ◌≡◌, Decides, Effect, Fetched, IfOk, List, Ok, Refusal, Response, Session, Text, ℕ, answers, ap, bytes_fetched, in_domain, in_domain-some, length, refl, sets_of, shelf_state, state_session, subst}
use Rattle.ls_meaning.specs.MeshRows.{agreed_by, mesh_agree_row, two_files}
use Rattle.ls_deciding.specs.TwoFiles.{right_bytes}
use Rattle.ls_state.proofs.Decided.{makes_response, some_names}
use Rattle.ls_state.proofs.TwoFetched.{both_read, both_unfetched, both_unread}
use Rattle.ls_state.proofs.state.State.mesh_agree.Goals as goal

module _ (s : Session) where
  abbrev whole : Fetched → Fetched → Effect
  whole left right = in_domain s (answers s (mesh_agree_row s.names left right))

  abbrev shows : List Refusal → List ℕ → List ℕ → Effect
  shows refusals left right = answers s (agreed_by (length s.names) refusals (sets_of s.names left) (sets_of s.names right))

  whole-shows : 0 < length s.names → (left right : Fetched) → whole left right ≡ shows (two_files left right) (bytes_fetched left) (bytes_fetched right)
  whole-shows some left right = in_domain-some s _ some

pub returns-in_err-files : goal.returns-in_err-files
returns-in_err-files g c =
    let a = c.args in
    let s = a.self.now in
    both_unfetched (whole s) (shows s) (whole-shows s (some_names c.self.view_is c.self.invariant.some)) (λ refusal rest left right. refl) (λ refusals left right. refl) a.left.now a.right.now c.fetch_both.ensures _ c.from_residual.result c.from_residual.ensures.1

pub returns-in-Ok : goal.returns-in-Ok
returns-in-Ok g c =
    let a = c.args in
    let i = c.self.inside in
    let s = state_session i.texts i.inquiry i.settings i.pupils i.safe in
    let read = ap (λ (names : List Text). agreed_by (length names) [] (sets_of names c.in-Ok.files.left.items) (sets_of names (right_bytes c.in-Ok.files))) c.domain-domain.ensures in
    subst (λ (x : Session). Decides (λ calls. whole x (calls.file a.left.now) (calls.file a.right.now)) x x (shelf_state g.H.Shelf a.shelf.now) (shelf_state g.H.Shelf c.fetch_both.new.shelf) c.agreement.result) c.self.view_is
    (both_read (whole s) (shows s) (whole-shows s c.self.invariant.some) (λ refusal rest left right. refl) (λ refusals left right. refl) a.left.now a.right.now c.fetch_both.ensures (c.in_ok-files.was ∙ ap Ok c.in-Ok.is)
    (makes_response c.agreement.result (subst (λ (x : Response). IfOk c.agreement.result (λ r. r ≡ x)) read c.agreement.ensures)))

pub returns-in-Err : goal.returns-in-Err
returns-in-Err g c =
    let a = c.args in
    let s = a.self.now in
    both_unread (whole s) (shows s) (whole-shows s (some_names c.self.view_is c.self.invariant.some)) (λ refusal rest left right. refl) (λ refusals left right. refl) a.left.now a.right.now c.fetch_both.ensures (c.in_ok-files.was ∙ ap Ok c.in-Err.is)
