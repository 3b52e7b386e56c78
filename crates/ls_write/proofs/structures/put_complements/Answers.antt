use Rattle.ls_write.proofs.Vocabulary.{◌∙◌, Items, List, ap, ap₂, comes_before, length, lines_bytes}
use Rattle.ls_write.proofs.Vocabulary.{page, page_lines, sym}
use Rattle.ls_base.specs.Bases.{BaseState}
use Rattle.ls_origins.specs.Meshes.{part_family}
use Rattle.ls_origins.specs.Skills.{duals}
use Rattle.ls_meaning.specs.StateLists.{StateList}
use Rattle.ls_skill.proofs.Skilled.{all-complements, any-compat}
use Rattle.ls_room.proofs.Saying.{says_as}
use Rattle.ls_write.proofs.structures.put_complements.Goals as goal

pub returns-clause-says : goal.returns-clause-says
returns-clause-says g c =
    let names = c.args.texts.now in
    let states = c.states.inside in
    let unions = c.new-unions.ensures in
    let count = unions.count ∙ c.count.ensures.value ∙ ap length c.domain.ensures in
    let items = count ∙ sym c.requires.items ∙ ap (λ (l : StateList). l.item_count) (sym c.states.view_is) in
    says_as
    (ap
    (λ (f : List Items). lines_bytes
    (page_lines names (page comes_before f c.args.after c.args.count)))
    (ap (λ (u : BaseState). duals u.item_count (part_family u.item_count u.sets))
    c.new-counted.ensures
    ∙ ap₂ (λ m (f : List Items). duals m f) items
    (ap₂ part_family items (unions.sets ∙ c.as_slice.ensures)
    ∙ sym (any-compat states.items states.sets c.states.invariant))
    ∙ sym (all-complements states.items states.sets)
    ∙ ap (λ (l : StateList). l.states) c.states.view_is))
    c.put_duals.ensures.says
