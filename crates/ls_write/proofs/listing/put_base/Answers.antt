use Rattle.ls_write.proofs.Vocabulary.{◌∷◌, [], decimal, length, line, map, set_line}
use Rattle.ls_meaning.specs.Heads as head
use Rattle.ls_room.proofs.Saying.{says_as, says_then}
use Rattle.ls_room.proofs.LineBytes.{lines-last}
use Rattle.ls_write.proofs.listing.put_base.Goals as goal

pub returns : goal.returns
returns g c =
    says_as (lines-last (map (set_line c.args.texts.now) c.args.sets.now) (line head.Base (decimal (length c.args.sets.now) ∷ []))) (says_then c.put_sets.ensures c.put_numbered.ensures)
