use Rattle.ls_session.proofs.Vocabulary.{[], ◌∙◌, ◌≡◌, Effect, Fetched, List, Ok, Refusal, Session, ℕ, ap, bytes_fetched, changes, false, file_refusals, has_domain, load_items_row, load_items_row-begins, load_items_row-stands, names_of_table, refl, standing_session, started_by, sym}
use Rattle.ls_state.proofs.Decided.{decides_made, makes_as}
use Rattle.ls_state.proofs.Fetched.{decides_read, decides_unfetched, decides_unread}
use Rattle.ls_session.proofs.decider.Decider.load_items.Goals as goal

abbrev loads : Session → Fetched → Effect
loads s given = changes (load_items_row s given)

abbrev begins : Session → List Refusal → List ℕ → Effect
begins s refusals bytes = changes (started_by s refusals (names_of_table bytes))

loads-begins : (s : Session) → has_domain s ≡ false → (given : Fetched) → loads s given ≡ begins s (file_refusals given) (bytes_fetched given)
loads-begins s none given = ap changes (load_items_row-begins s given none)

pub returns-then-has_domain : goal.returns-then-has_domain
returns-then-has_domain g c =
    let s = standing_session c.args.self.now.state in
    decides_made (λ calls. ap changes (load_items_row-stands s (calls.file c.args.file.now) (sym c.has_domain.ensures ∙ c.if-has_domain.true))) refl (record { response = refl; session = refl; undone = tt })

pub returns-in_err-bytes : goal.returns-in_err-bytes
returns-in_err-bytes g c =
    let s = standing_session c.args.self.now.state in
    decides_unfetched (loads s) (begins s) (loads-begins s (sym c.has_domain.ensures ∙ c.if-has_domain.false)) (λ refusal bytes. refl) (λ refusals bytes. refl) c.args.file.now c.fetch.ensures _ c.from_residual.result c.from_residual.ensures.1

pub returns-in-Ok : goal.returns-in-Ok
returns-in-Ok g c =
    let s = standing_session c.args.self.now.state in
    decides_read (loads s) (begins s) (loads-begins s (sym c.has_domain.ensures ∙ c.if-has_domain.false)) (λ refusal bytes. refl) (λ refusals bytes. refl) c.fetch.ensures (c.in_ok-bytes.was ∙ ap Ok c.in-Ok.is)
    (makes_as (ap (begins s []) (sym c.deref.ensures.value)) (c.start.ensures (names_of_table c.deref.result.now) (record { names = c.from_csv.ensures.read; fault = c.from_csv.ensures.fault })))

pub returns-in-Err : goal.returns-in-Err
returns-in-Err g c =
    let s = standing_session c.args.self.now.state in
    decides_unread (loads s) (begins s) (loads-begins s (sym c.has_domain.ensures ∙ c.if-has_domain.false)) (λ refusal bytes. refl) (λ refusals bytes. refl) c.fetch.ensures (c.in_ok-bytes.was ∙ ap Ok c.in-Err.is)
