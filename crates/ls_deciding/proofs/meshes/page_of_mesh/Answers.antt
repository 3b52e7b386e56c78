use Rattle.std.proofs.Common.{[], ◌∙◌, ◌≡◌, List, ap, ap₂, length, subst, sym, ℕ}
use Rattle.ls_set.specs.{Items, full}
use Rattle.ls_origins.specs.Meshes.{mesh_of, part_items}
use Rattle.ls_mesh.proofs.SetParts.{mesh-again, side_base-full}
use Rattle.ls_files.specs.SetFiles.{sets_of}
use Rattle.ls_meaning.specs.Effects.{◌otherwise◌}
use Rattle.ls_meaning.specs.Rows.{sets_read}
use Rattle.ls_meaning.specs.StateLists.{states_on}
use Rattle.ls_meaning.specs.declared.response.Refusal.{Refusal}
use Rattle.ls_meaning.specs.declared.response.Response.TheVariants.{Shown}
use Rattle.ls_meaning.specs.declared.response.Shown.TheVariants.{Mesh}
use Rattle.ls_deciding.specs.Parts.{IsMeshRead}
use Rattle.ls_deciding.specs.TwoFiles.{right_bytes}
use Rattle.ls_deciding.proofs.TwoParts.{sets-on}
use Rattle.ls_deciding.proofs.meshes.page_of_mesh.Goals as goal

pub invariant_of-result : goal.invariant_of-result
invariant_of-result c =
    let names = c.args.domain.now in
    let n = length names in
    let first = c.args.files.now.left.items in
    let second = right_bytes c.args.files.now in
    let left = sets_read (sets_of names first) in
    let right = sets_read (sets_of names second) in
    let read =
    subst (IsMeshRead n (sets_of names first) (sets_of names second)) c.in-Ok.is
    c.in_ok-mesh.ensures in
    let items = ap full (sym c.count-items.ensures.value) in (
      ap part_items (c.in_ok-left-in-Ok.ensures ∙ c.left.ensures n left right read.1)
          ∙ side_base-full n left (sets-on names first) ∙ items,
      ap part_items (c.in_ok-right-in-Ok.ensures ∙ c.right.ensures n left right read.1)
          ∙ side_base-full n right (sets-on names second) ∙ items,
    )

pub returns-in_ok-right-in-Ok : goal.returns-in_ok-right-in-Ok
returns-in_ok-right-in-Ok c =
    let names = c.args.domain.now in
    let n = length names in
    let first = c.args.files.now.left.items in
    let second = right_bytes c.args.files.now in
    let left = sets_read (sets_of names first) in
    let right = sets_read (sets_of names second) in
    let read =
    subst (IsMeshRead n (sets_of names first) (sets_of names second)) c.in-Ok.is
    c.in_ok-mesh.ensures in
    let page = λ (k : ℕ) (f : List Items). Shown (Mesh (states_on k f) c.args.count c.args.after) in
    ap (λ k. page k (mesh_of k c.in_ok-left-in-Ok.left c.in_ok-right-in-Ok.right))
    c.count-items.ensures.value
    ∙ ap (page n)
    (ap₂ (mesh_of n) (c.in_ok-left-in-Ok.ensures ∙ c.left.ensures n left right read.1)
    (c.in_ok-right-in-Ok.ensures ∙ c.right.ensures n left right read.1)
    ∙ mesh-again n left right (sets-on names first) (sets-on names second))
    ∙ ap (λ (rs : List Refusal). rs otherwise page n (mesh_of n left right)) (sym read.0)
