use Rattle.ls_enum.proofs.Vocabulary.{◌+◌, ◌≤◌, AreWidest, count_before}
use Rattle.ls_enum.proofs.Seeking.{IsSought}
use Rattle.ls_enum.proofs.forward.go_forward.Given as goal

-- the member is a widest member that agrees with the word, and each step but the first passed an item that the word lacks
abbrev pub invariant-loop-i : goal.invariant-loop-i
invariant-loop-i g l = record {
  sought : IsSought (g.I.Interior.members l.f) l.word l.i l.member;
  widest : AreWidest (g.I.Interior.members l.f) l.widest.held.items;
  cost : l.steps + count_before l.word l.i ≤ l.fn.steps + (l.i + 1);
}
