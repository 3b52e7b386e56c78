use Rattle.ls_state.proofs.Vocabulary.{[], ◌<◌, ◌∙◌, ◌≡◌, CursorFault, Decides, Effect, Err, Fetched, IfOk, Items, List, Ok, Option, Refusal, Response, Result, Session, Text, ℕ, after_of, answers, ap, ap₂, in_domain, in_domain-some, length, refl, shelf_state, state_session, subst}
use Rattle.ls_files.specs.SkillFiles.{skills_of}
use Rattle.ls_meaning.specs.SkillRows.{delineated_by, skills_row}
use Rattle.ls_meaning.specs.declared.request.SkillModel.{SkillModel}
use Rattle.ls_state.proofs.Cursors.{cursor}
use Rattle.ls_state.proofs.Decided.{decides_made, makes_response, some_names}
use Rattle.ls_state.proofs.Fetched.{decides_read, decides_unfetched, decides_unread}
use Rattle.ls_state.proofs.state.State.skills.Goals as goal

module _ (model : SkillModel) (count : ℕ) (after : Option Text) (s : Session) where
  abbrev row : Result (Option Items) CursorFault → Fetched → Response
  row from given = skills_row model s.names given count from

  abbrev whole : Fetched → Effect
  whole given = in_domain s (answers s (row (after_of (length s.names) after) given))

  abbrev shows : Option Items → List Refusal → List ℕ → Effect
  shows from refusals bytes = answers s (delineated_by model (length s.names) count from refusals (skills_of s.names bytes))

  whole-row : 0 < length s.names → (from : Result (Option Items) CursorFault) → after_of (length s.names) after ≡ from → (given : Fetched) → whole given ≡ answers s (row from given)
  whole-row some from is given = in_domain-some s _ some ∙ ap (λ (r : Result (Option Items) CursorFault). answers s (row r given)) is

pub returns-in-Err : goal.returns-in-Err
returns-in-Err g c =
    let a = c.args in
    let some = some_names c.self.view_is c.self.invariant.some in
    let is = cursor a.after.now c.self.view_is (c.count.ensures.value ∙ ap (λ (names : List Text). length names) c.domain-domain.ensures) c.read_after.ensures.read c.in-Err.is in
    decides_made (λ calls. whole-row a.model a.count a.after.now a.self.now some (Err c.in-Err.fault) is (calls.file a.file.now)) refl (record { response = refl; session = refl; undone = tt })

pub returns-in_err-bytes : goal.returns-in_err-bytes
returns-in_err-bytes g c =
    let a = c.args in
    let s = a.self.now in
    let some = some_names c.self.view_is c.self.invariant.some in
    let is = cursor a.after.now c.self.view_is (c.count.ensures.value ∙ ap (λ (names : List Text). length names) c.domain-domain.ensures) c.read_after.ensures.read c.in-Ok.is in
    decides_unfetched (whole a.model a.count a.after.now s) (shows a.model a.count a.after.now s c.in-Ok.after) (whole-row a.model a.count a.after.now s some (Ok c.in-Ok.after) is) (λ refusal bytes. refl) (λ refusals bytes. refl) a.file.now c.fetch.ensures _ c.from_residual.result c.from_residual.ensures.1

pub returns-in-Ok-2 : goal.returns-in-Ok-2
returns-in-Ok-2 g c =
    let a = c.args in
    let i = c.self.inside in
    let s = state_session i.texts i.inquiry i.settings i.pupils i.safe in
    let is = cursor {t = s} a.after.now refl (c.count.ensures.value ∙ ap (λ (names : List Text). length names) c.domain-domain.ensures) c.read_after.ensures.read c.in-Ok.is in
    let read = ap₂ (λ (names : List Text) (bytes : List ℕ). delineated_by a.model (length names) a.count c.in-Ok.after [] (skills_of names bytes)) c.domain-domain.ensures c.deref.ensures.value in
    subst (λ (x : Session). Decides (λ calls. whole a.model a.count a.after.now x (calls.file a.file.now)) x x (shelf_state g.H.Shelf a.shelf.now) (shelf_state g.H.Shelf c.fetch.new.shelf) c.delineate.result) c.self.view_is
    (decides_read (whole a.model a.count a.after.now s) (shows a.model a.count a.after.now s c.in-Ok.after) (whole-row a.model a.count a.after.now s c.self.invariant.some (Ok c.in-Ok.after) is) (λ refusal bytes. refl) (λ refusals bytes. refl) c.fetch.ensures (c.in_ok-bytes.was ∙ ap Ok c.in-Ok-2.is)
    (makes_response c.delineate.result (subst (λ (x : Response). IfOk c.delineate.result (λ r. r ≡ x)) read c.delineate.ensures)))

pub returns-in-Err-2 : goal.returns-in-Err-2
returns-in-Err-2 g c =
    let a = c.args in
    let s = a.self.now in
    let some = some_names c.self.view_is c.self.invariant.some in
    let is = cursor a.after.now c.self.view_is (c.count.ensures.value ∙ ap (λ (names : List Text). length names) c.domain-domain.ensures) c.read_after.ensures.read c.in-Ok.is in
    decides_unread (whole a.model a.count a.after.now s) (shows a.model a.count a.after.now s c.in-Ok.after) (whole-row a.model a.count a.after.now s some (Ok c.in-Ok.after) is) (λ refusal bytes. refl) (λ refusals bytes. refl) c.fetch.ensures (c.in_ok-bytes.was ∙ ap Ok c.in-Err-2.is)
