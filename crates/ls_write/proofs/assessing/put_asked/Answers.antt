use Rattle.ls_write.proofs.Vocabulary.{◌∙◌, ap, asked_line, codes, line_bytes, name_of, sym}
use Rattle.ls_theory.specs.declared.asked.Asked.{Asked}
use Rattle.ls_room.proofs.Saying.{says_as, says_then}
use Rattle.ls_room.proofs.LineBytes.{line-one}
use Rattle.ls_write.proofs.assessing.put_asked.Goals as goal

pub returns-in-Item : goal.returns-in-Item
returns-in-Item g c =
    let names = c.args.texts.now in
    says_as
    (line-one (codes "question") (name_of names c.in-Item.item) ∙ ap (λ (a : Asked). line_bytes (asked_line names a)) (sym c.in-Item.is))
    (says_then (says_then c.put.ensures.says c.put_name.ensures) c.end_line.ensures)
