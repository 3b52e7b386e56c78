use Rattle.ls_state.proofs.Vocabulary.{[], ◌<◌, ◌∙◌, ◌≡◌, CursorFault, Decides, Effect, Err, Fetched, IfOk, Items, List, Ok, Option, Refusal, Response, Result, Session, Text, ℕ, after_of, answers, ap, in_domain, in_domain-some, length, refl, sets_of, shelf_state, state_session, subst}
use Rattle.ls_meaning.specs.MeshRows.{mesh_row, meshed_by}
use Rattle.ls_deciding.specs.TwoFiles.{right_bytes}
use Rattle.ls_state.proofs.Cursors.{cursor}
use Rattle.ls_state.proofs.Decided.{decides_made, makes_response, some_names}
use Rattle.ls_state.proofs.TwoFetched.{both_read, both_unfetched, both_unread}
use Rattle.ls_state.proofs.state.State.mesh.Goals as goal

module _ (count : ℕ) (after : Option Text) (s : Session) where
  abbrev row : Result (Option Items) CursorFault → Fetched → Fetched → Response
  row from left right = mesh_row s.names left right count from

  abbrev whole : Fetched → Fetched → Effect
  whole left right = in_domain s (answers s (row (after_of (length s.names) after) left right))

  abbrev shows : Option Items → List Refusal → List ℕ → List ℕ → Effect
  shows from refusals left right = answers s (meshed_by (length s.names) count from refusals (sets_of s.names left) (sets_of s.names right))

  whole-row : 0 < length s.names → (from : Result (Option Items) CursorFault) → after_of (length s.names) after ≡ from → (left right : Fetched) → whole left right ≡ answers s (row from left right)
  whole-row some from is left right = in_domain-some s _ some ∙ ap (λ (r : Result (Option Items) CursorFault). answers s (row r left right)) is

pub returns-in-Err : goal.returns-in-Err
returns-in-Err g c =
    let a = c.args in
    let some = some_names c.self.view_is c.self.invariant.some in
    let is = cursor a.after.now c.self.view_is (c.count.ensures.value ∙ ap (λ (names : List Text). length names) c.domain-domain.ensures) c.read_after.ensures.read c.in-Err.is in
    decides_made (λ calls. whole-row a.count a.after.now a.self.now some (Err c.in-Err.fault) is (calls.file a.left.now) (calls.file a.right.now)) refl (record { response = refl; session = refl; undone = tt })

pub returns-in_err-files : goal.returns-in_err-files
returns-in_err-files g c =
    let a = c.args in
    let s = a.self.now in
    let some = some_names c.self.view_is c.self.invariant.some in
    let is = cursor a.after.now c.self.view_is (c.count.ensures.value ∙ ap (λ (names : List Text). length names) c.domain-domain.ensures) c.read_after.ensures.read c.in-Ok.is in
    both_unfetched (whole a.count a.after.now s) (shows a.count a.after.now s c.in-Ok.after) (whole-row a.count a.after.now s some (Ok c.in-Ok.after) is) (λ refusal rest left right. refl) (λ refusals left right. refl) a.left.now a.right.now c.fetch_both.ensures _ c.from_residual.result c.from_residual.ensures.1

pub returns-in-Ok-2 : goal.returns-in-Ok-2
returns-in-Ok-2 g c =
    let a = c.args in
    let i = c.self.inside in
    let s = state_session i.texts i.inquiry i.settings i.pupils i.safe in
    let is = cursor {t = s} a.after.now refl (c.count.ensures.value ∙ ap (λ (names : List Text). length names) c.domain-domain.ensures) c.read_after.ensures.read c.in-Ok.is in
    let read = ap (λ (names : List Text). meshed_by (length names) a.count c.in-Ok.after [] (sets_of names c.in-Ok-2.files.left.items) (sets_of names (right_bytes c.in-Ok-2.files))) c.domain-domain.ensures in
    subst (λ (x : Session). Decides (λ calls. whole a.count a.after.now x (calls.file a.left.now) (calls.file a.right.now)) x x (shelf_state g.H.Shelf a.shelf.now) (shelf_state g.H.Shelf c.fetch_both.new.shelf) c.page_of_mesh.result) c.self.view_is
    (both_read (whole a.count a.after.now s) (shows a.count a.after.now s c.in-Ok.after) (whole-row a.count a.after.now s c.self.invariant.some (Ok c.in-Ok.after) is) (λ refusal rest left right. refl) (λ refusals left right. refl) a.left.now a.right.now c.fetch_both.ensures (c.in_ok-files.was ∙ ap Ok c.in-Ok-2.is)
    (makes_response c.page_of_mesh.result (subst (λ (x : Response). IfOk c.page_of_mesh.result (λ r. r ≡ x)) read c.page_of_mesh.ensures)))

pub returns-in-Err-2 : goal.returns-in-Err-2
returns-in-Err-2 g c =
    let a = c.args in
    let s = a.self.now in
    let some = some_names c.self.view_is c.self.invariant.some in
    let is = cursor a.after.now c.self.view_is (c.count.ensures.value ∙ ap (λ (names : List Text). length names) c.domain-domain.ensures) c.read_after.ensures.read c.in-Ok.is in
    both_unread (whole a.count a.after.now s) (shows a.count a.after.now s c.in-Ok.after) (whole-row a.count a.after.now s some (Ok c.in-Ok.after) is) (λ refusal rest left right. refl) (λ refusals left right. refl) a.left.now a.right.now c.fetch_both.ensures (c.in_ok-files.was ∙ ap Ok c.in-Err-2.is)
