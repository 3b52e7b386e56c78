use Rattle.std.proofs.Common.{◌≡◌, ◌+◌, ◌<◌, ◌≤◌, true, ℕ}
use Rattle.ls_skill.specs.Duals.{parts_at}
use Rattle.ls_skill.proofs.next.next_dual.Given as goal

-- no member parts from the word at an item that is passed, and each step passed one
abbrev pub invariant-loop-i : goal.invariant-loop-i
invariant-loop-i g l = record {
  none : (j : ℕ) → l.i ≤ j → j < g.I.Interior.item_count l.f
      → parts_at (g.I.Interior.item_count l.f) (g.I.Interior.members l.f) l.word j ≡ true → ⊥;
  cost : l.steps + l.i ≤ l.fn.steps + g.I.Interior.item_count l.f;
}
