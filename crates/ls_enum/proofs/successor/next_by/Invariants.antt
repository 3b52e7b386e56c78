use Rattle.ls_enum.proofs.Vocabulary.{◌+◌, ◌≤◌, AreWidest, IfSome, NoneFrom, Serves, count_before}
use Rattle.ls_enum.proofs.successor.next_by.Given as goal

-- no member first differs at an item that is passed, what serves agrees before the next one,
-- and each step passed one
abbrev pub invariant-loop-i : goal.invariant-loop-i
invariant-loop-i g l = record {
  none : NoneFrom (g.I.Interior.members l.f) l.word l.i;
  widest : AreWidest (g.I.Interior.members l.f) l.widest.held.items;
  serves : IfSome l.serving (Serves (g.I.Interior.members l.f) l.word l.i);
  cost : l.steps + count_before l.word l.i ≤ l.fn.steps + (g.I.Interior.item_count l.f + 1);
}
