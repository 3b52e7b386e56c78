use Rattle.ls_room.proofs.Vocabulary.{◌++◌, ◌∙◌, ◌∷◌, ◌≡◌, [], ap, ap₂, arith, common_steps, length}
use Rattle.ls_room.specs.declared.text_list.Place.{Place}
use Rattle.ls_room.proofs.Parts.{parts, parts-next}
use Rattle.ls_room.proofs.text_list.TextList.push.Goals as goal

pub returns : goal.returns
returns c =
    let bytes = c.self.inside.bytes.items in
    let text = c.args.text.now in
    let start = λ (p : Place). p.start in
    let end = λ (p : Place). p.end in
    let ordered = λ (p : Place). p.ordered in
    let longer : c.extend_from_slice.new.self.items ≡ bytes ++ text = grind (arith, common_steps) in
    let first : c.len-start.result ≡ length bytes = grind (arith, common_steps) in
    let last : c.len-end.result ≡ length (bytes ++ text) = grind (arith, common_steps, ap length longer) in
    ap₂ (parts start end ordered) longer c.in_ok-push.ensures.items
    ∙ parts-next start end ordered bytes text c.self.inside.places.items _ c.self.invariant first last
    ∙ ap (λ ts. ts ++ text ∷ []) c.self.view_is
