use Rattle.ls_write.proofs.Vocabulary.{◌∙◌, ◌∷◌, [], ap, arith, codes, line_bytes, name_of}
use Rattle.ls_write.proofs.Vocabulary.{no_relation_line, sym}
use Rattle.ls_origins.specs.declared.relation_fault.RelationFault.{RelationFault}
use Rattle.ls_room.proofs.Saying.{says_as}
use Rattle.ls_room.proofs.LineBytes.{line-spaced}
use Rattle.ls_write.proofs.relations.put_no_relation.Goals as goal

pub returns-in-TwoClauses : goal.returns-in-TwoClauses
returns-in-TwoClauses g c =
    let w = c.in-TwoClauses in
    let names = c.args.texts.now in
    says_as
    (line-spaced (codes "relation" ∷ codes "no" ∷ []) (name_of names) (w.item ∷ [])
    (omega arith)
    ∙ ap (λ (f : RelationFault). line_bytes (no_relation_line names f)) (sym w.is))
    c.put_items.ensures

pub returns-in-Quasi : goal.returns-in-Quasi
returns-in-Quasi g c =
    let w = c.in-Quasi in
    let names = c.args.texts.now in
    says_as
    (line-spaced (codes "relation" ∷ codes "quasi" ∷ []) (name_of names)
    (w.first ∷ w.second ∷ []) (omega arith)
    ∙ ap (λ (f : RelationFault). line_bytes (no_relation_line names f)) (sym w.is))
    c.put_items-in-Quasi.ensures
