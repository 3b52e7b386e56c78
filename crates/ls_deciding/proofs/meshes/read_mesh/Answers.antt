use Rattle.std.proofs.Common.{◌∙◌, List, ap, length, subst, sym, ℕ}
use Rattle.ls_files.specs.SetFiles.{sets_of}
use Rattle.ls_meaning.specs.MeshRows.{part_refusals}
use Rattle.ls_deciding.specs.Parts.{IsPartRead}
use Rattle.ls_deciding.specs.TwoFiles.{right_bytes}
use Rattle.ls_deciding.proofs.TwoParts.{first_refused, second_refused}
use Rattle.ls_deciding.proofs.meshes.read_mesh.Goals as goal

pub returns-in-Err : goal.returns-in-Err
returns-in-Err c =
    let names = c.args.domain.now in
    let files = c.args.files.now in
    let told =
    subst (IsPartRead 1 (sets_of names c.deref.result.now)) c.in-Err.is c.in_ok-family.ensures in
    first_refused (length names) (sets_of names files.left.items)
    (sets_of names (right_bytes files)) c.in-Err.refusal
    (ap (λ (bytes : List ℕ). part_refusals 1 (sets_of names bytes)) (sym c.deref.ensures.value)
    ∙ told)

pub returns-in-Err-2 : goal.returns-in-Err-2
returns-in-Err-2 c =
    let names = c.args.domain.now in
    let files = c.args.files.now in
    let read =
    subst (IsPartRead 1 (sets_of names c.deref.result.now)) c.in-Ok.is c.in_ok-family.ensures in
    let told =
    subst (IsPartRead 2 (sets_of names c.right.result.now)) c.in-Err-2.is
    c.in_ok-family-2.ensures in
    second_refused (length names) (sets_of names files.left.items)
    (sets_of names (right_bytes files)) c.in-Ok.family.sets c.in-Err-2.refusal
    (ap (sets_of names) (sym c.deref.ensures.value) ∙ read)
    (ap (λ (bytes : List ℕ). part_refusals 2 (sets_of names bytes)) (sym c.right.ensures) ∙ told)
