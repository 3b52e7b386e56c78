use Rattle.std.proofs.Common.{◌≡◌}
use Rattle.ls_set.specs.{keep_before}
use Rattle.ls_theory.specs.{outer_fringe}
use Rattle.ls_interior.proofs.family.Inside.outer_fringe.Given as goal

-- the items so far are those of the fringe
abbrev pub invariant-loop-item : goal.invariant-loop-item
invariant-loop-item g l = l.fringe ≡ keep_before (outer_fringe (g.Self.Inside.item_count l.self) (g.Self.Inside.members l.self) l.member) l.item
