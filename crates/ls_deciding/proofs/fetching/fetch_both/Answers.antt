use Rattle.ls_deciding.proofs.Vocabulary.{◌∙◌, Err, Ok, SeesFile, ap, ap₂, bytes_eq, shelf_state, subst, sym}
use Rattle.ls_deciding.proofs.TwoFetched.{both_of, sees_err, sees_files, sees_first}
use Rattle.ls_pupils.proofs.Own.{own_name}
use Rattle.ls_deciding.proofs.fetching.fetch_both.Goals as goal

pub returns-in-Err : goal.returns-in-Err
returns-in-Err g c = sees_first c.args.left.now c.args.right.now c.in-Err.refusal (subst (λ r. SeesFile c.args.left.now (shelf_state g.H.Shelf c.args.shelf.now) (shelf_state g.H.Shelf c.fetch.new.shelf) r) (c.in_ok-bytes.was ∙ ap Ok c.in-Err.is) c.fetch.ensures)

pub returns-in-Ok-2 : goal.returns-in-Ok-2
returns-in-Ok-2 g c =
    let before = shelf_state g.H.Shelf c.args.shelf.now in
    let between = shelf_state g.H.Shelf c.fetch.new.shelf in
    let after = shelf_state g.H.Shelf c.fetch-2.new.shelf in
    sees_files c.args.left.now c.args.right.now c.in-Ok.bytes (Ok (Ok c.in-Ok-2.second)) (own_name c.args.left.now) (ap₂ bytes_eq (sym c.as_str.ensures) (sym c.as_str-2.ensures) ∙ sym c.eq.ensures ∙ c.if-eq.false)
    (subst (λ r. SeesFile c.args.left.now before between r) (c.in_ok-bytes.was ∙ ap Ok c.in-Ok.is) c.fetch.ensures)
    (subst (λ r. SeesFile c.args.right.now between after r) (c.in_ok-second.was ∙ ap Ok c.in-Ok-2.is) c.fetch-2.ensures)

pub returns-in-Err-2 : goal.returns-in-Err-2
returns-in-Err-2 g c =
    let before = shelf_state g.H.Shelf c.args.shelf.now in
    let between = shelf_state g.H.Shelf c.fetch.new.shelf in
    let after = shelf_state g.H.Shelf c.fetch-2.new.shelf in
    sees_files c.args.left.now c.args.right.now c.in-Ok.bytes (Ok (Err c.in-Err-2.refusal)) (own_name c.args.left.now) (ap₂ bytes_eq (sym c.as_str.ensures) (sym c.as_str-2.ensures) ∙ sym c.eq.ensures ∙ c.if-eq.false)
    (subst (λ r. SeesFile c.args.left.now before between r) (c.in_ok-bytes.was ∙ ap Ok c.in-Ok.is) c.fetch.ensures)
    (subst (λ r. SeesFile c.args.right.now between after r) (c.in_ok-second.was ∙ ap Ok c.in-Err-2.is) c.fetch-2.ensures)

pub returns-in_err-second : goal.returns-in_err-second
returns-in_err-second g c =
    let before = shelf_state g.H.Shelf c.args.shelf.now in
    let between = shelf_state g.H.Shelf c.fetch.new.shelf in
    sees_err c.args.left.now c.args.right.now (both_of c.in-Ok.bytes c.fetch-2.result) _ c.from_residual-in_err-second.result
    (sees_files c.args.left.now c.args.right.now c.in-Ok.bytes c.fetch-2.result (own_name c.args.left.now) (ap₂ bytes_eq (sym c.as_str.ensures) (sym c.as_str-2.ensures) ∙ sym c.eq.ensures ∙ c.if-eq.false)
    (subst (λ r. SeesFile c.args.left.now before between r) (c.in_ok-bytes.was ∙ ap Ok c.in-Ok.is) c.fetch.ensures)
    c.fetch-2.ensures)
    c.from_residual-in_err-second.ensures.1
