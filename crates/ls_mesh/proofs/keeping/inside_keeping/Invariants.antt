use Rattle.std.proofs.Common.{◌≡◌, true}
use Rattle.ls_set.specs.{IsWithin, full, is_within, len}
use Rattle.ls_theory.specs.{interior}
use Rattle.ls_mesh.specs.Sides.{both}
use Rattle.ls_mesh.specs.Turning.{turn}
use Rattle.ls_mesh.proofs.keeping.inside_keeping.Given as goal

-- a set with the same interior in both, and what a turn makes of it, which has all items of keep
abbrev pub invariant-loop-set : goal.invariant-loop-set
invariant-loop-set g l = record {
  within : IsWithin l.set (full (g.F.Inside.item_count l.left));
  same : interior (both (g.F.Inside.members l.left) (g.G.Inside.members l.right)) l.set
      ≡ interior (both (g.F.Inside.members l.left) (g.G.Inside.members l.right)) l.fn.s;
  next : l.next ≡ turn (g.F.Inside.members l.left) (g.G.Inside.members l.right) l.set;
  kept : is_within l.keep l.next ≡ true;
}

abbrev pub decreases-loop-set : goal.decreases-loop-set
decreases-loop-set g l = len l.set
