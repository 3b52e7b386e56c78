use Rattle.ls_write.proofs.Vocabulary.{◌∷◌, [], arith, codes, name_of}
use Rattle.ls_room.proofs.Saying.{says_as}
use Rattle.ls_room.proofs.LineBytes.{line-spaced}
use Rattle.ls_write.proofs.relations.put_cover.Goals as goal

pub returns : goal.returns
returns g c =
    says_as
    (line-spaced (codes "cover" ∷ []) (name_of c.args.texts.now)
    (c.args.cover.low ∷ c.args.cover.high ∷ []) (omega arith)) c.put_items.ensures
