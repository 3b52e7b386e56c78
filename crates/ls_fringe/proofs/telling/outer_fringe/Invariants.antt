use Rattle.ls_fringe.proofs.Vocabulary.{◌≡◌, keep_before, outer_fringe}
use Rattle.ls_fringe.proofs.telling.outer_fringe.Given as goal

-- the items so far are those of the fringe
abbrev pub invariant-loop-item : goal.invariant-loop-item
invariant-loop-item g l = l.fringe ≡ keep_before (outer_fringe (g.F.Inside.item_count l.f) (g.F.Inside.members l.f) l.k) l.item
