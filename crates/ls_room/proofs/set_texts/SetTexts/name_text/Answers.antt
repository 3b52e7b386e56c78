use Rattle.ls_room.proofs.Vocabulary.{◌%◌, ◌∙◌, arith}
use Rattle.ls_room.proofs.Groups.{byte_pow, group_text-single}
use Rattle.ls_room.proofs.set_texts.SetTexts.name_text.Goals as goal

pub returns : goal.returns
returns c =
    let item = c.args.item in
    c.group_text.ensures ∙ group_text-single c.args.self.now item _ c.requires (byte_pow (item % 8) (omega arith))
