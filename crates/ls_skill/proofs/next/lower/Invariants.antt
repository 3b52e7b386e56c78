use Rattle.std.proofs.Common.{◌≡◌, ◌+◌, ◌-◌, ◌≤◌, true}
use Rattle.ls_set.specs.ItemSet.{is_among}
use Rattle.ls_skill.specs.Duals.{lowered}
use Rattle.ls_skill.proofs.next.lower.Given as goal

-- a member, and what is left to be made of it; and each step passed an item
abbrev pub invariant-loop-j : goal.invariant-loop-j
invariant-loop-j g l = record {
  member : is_among (g.I.Interior.members l.f) l.lowest ≡ true;
  value : lowered (g.I.Interior.members l.f) l.lowest l.j (l.n - l.j)
      ≡ lowered (g.I.Interior.members l.f) l.fn.member l.first (l.n - l.first);
  cost : l.steps + l.first ≤ l.fn.steps + l.j;
}
