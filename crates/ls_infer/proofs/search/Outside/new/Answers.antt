use Rattle.ls_infer.proofs.Vocabulary.{full, minus-within}
use Rattle.ls_infer.proofs.search.Outside.new.Goals as goal

pub interior-requires : goal.interior-requires
interior-requires g c = rw (c.minus.ensures, c.full.ensures, c.items.ensures.count) (minus-within (full (g.I.Interior.item_count c.args.f.now)) c.args.set)
