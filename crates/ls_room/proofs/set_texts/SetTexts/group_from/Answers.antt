use Rattle.ls_room.proofs.Vocabulary.{◌*◌, ◌+◌, ◌∙◌, [], ap, arith, get_or, group_text, length}
use Rattle.ls_room.proofs.Groups.{length-group_texts, get_or-group_texts}
use Rattle.ls_room.proofs.set_texts.SetTexts.group_from.Goals as goal

pub get_from-requires : goal.get_from-requires
get_from-requires c = omega (arith, ap length c.self.invariant.0, length-group_texts c.self.inside.domain, ap length c.self.view_is)

pub returns-clause-text : goal.returns-clause-text
returns-clause-text c =
    let g = c.args.group in
    let k = 256 * g + c.args.pattern in
    c.get_from.ensures.text ∙ ap (λ texts. get_or texts k []) c.self.invariant.0
    ∙ get_or-group_texts c.self.inside.domain k g c.args.pattern (omega arith) (omega arith) (omega (arith, ap length c.self.view_is))
    ∙ ap (λ names. group_text names g c.args.pattern) c.self.view_is
