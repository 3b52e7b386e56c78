use Rattle.ls_write.proofs.Vocabulary.{◌++◌, ◌∙◌, ◌∷◌, [], ap, ap₂, cover_line, cover_lines}
use Rattle.ls_write.proofs.Vocabulary.{decimal, length, length-map, line, lines_bytes, map, map-map}
use Rattle.ls_write.proofs.Vocabulary.{sym}
use Rattle.ls_origins.specs.Relations.{pair_of}
use Rattle.ls_meaning.specs.Heads as head
use Rattle.ls_room.proofs.Saying.{says_as, says_then}
use Rattle.ls_room.proofs.LineBytes.{lines-last}
use Rattle.ls_write.proofs.relations.put_covers.Goals as goal

pub returns : goal.returns
returns g c =
    let names = c.args.texts.now in
    let list = c.as_slice-list.result.now in
    says_as
    (lines-last (map (λ c. cover_line names (pair_of c)) list)
    (line head.Relation (decimal (length list) ∷ []))
    ∙ ap₂ (λ ls k. lines_bytes (ls ++ line head.Relation (decimal k ∷ []) ∷ []))
    (sym (map-map (cover_line names) pair_of list)) (sym (length-map list pair_of))
    ∙ ap (λ pairs. lines_bytes (cover_lines names pairs)) c.as_slice-list.ensures)
    (says_then c.put_cover_lines.ensures c.put_numbered.ensures)
