use Rattle.ls_write.proofs.Vocabulary.{◌∙◌, Items, List, ap, ap₂, comes_before, length, lines_bytes}
use Rattle.ls_write.proofs.Vocabulary.{page, page_lines, sym}
use Rattle.ls_base.specs.Bases.{BaseState}
use Rattle.ls_origins.specs.Meshes.{part_family}
use Rattle.ls_mesh.specs.Families.{BothState}
use Rattle.ls_mesh.specs.Sides.{both}
use Rattle.ls_mesh.proofs.SetParts.{mesh-whole}
use Rattle.ls_meaning.specs.StateLists.{StateList}
use Rattle.ls_room.proofs.Saying.{says_as}
use Rattle.ls_write.proofs.structures.put_mesh.Goals as goal

abbrev members : BothState BaseState BaseState → List Items
members b =
    both (part_family b.left.item_count b.left.sets) (part_family b.right.item_count b.right.sets)

pub returns-clause-says : goal.returns-clause-says
returns-clause-says g c =
    let names = c.args.texts.now in
    let states = c.states.inside in
    let left = c.new-left.ensures in
    let right = c.new-right.ensures in
    let items =
    c.count-n.ensures.value ∙ ap length c.domain.ensures ∙ sym c.requires.items
    ∙ ap (λ (l : StateList). l.item_count) (sym c.states.view_is) in
    says_as
    (ap
    (λ (f : List Items). lines_bytes
    (page_lines names (page comes_before f c.args.after c.args.count)))
    (ap members c.new-both.ensures
    ∙ ap₂ both (ap₂ part_family (left.count ∙ items) (left.sets ∙ c.as_slice.ensures))
    (ap₂ part_family (right.count ∙ items) (right.sets ∙ c.as_slice-2.ensures))
    ∙ sym (mesh-whole states.items states.left states.right c.states.invariant.0 c.states.invariant.1)
    ∙ ap (λ (l : StateList). l.states) c.states.view_is))
    c.put_page.ensures.says
