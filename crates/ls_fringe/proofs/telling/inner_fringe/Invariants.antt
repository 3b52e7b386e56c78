use Rattle.ls_fringe.proofs.Vocabulary.{inner_fringe, items}
use Rattle.ls_fringe.proofs.Chosen.{Taking}
use Rattle.ls_fringe.proofs.telling.inner_fringe.Given as goal

abbrev pub invariant-loop-item : goal.invariant-loop-item
invariant-loop-item g l = Taking (inner_fringe (g.F.Inside.members l.f) l.k) l.k (items l.item-iterator) l.fringe
