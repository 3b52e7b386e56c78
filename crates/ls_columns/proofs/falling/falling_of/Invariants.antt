use Rattle.ls_columns.proofs.Vocabulary.{IsFalling, length, most_items, ◌≡◌}
use Rattle.ls_columns.proofs.falling.falling_of.Given as goal

abbrev pub invariant-loop-rule : goal.invariant-loop-rule
invariant-loop-rule l = record {
  sound : IsFalling l.rules l.falling.items;
  count : length l.falling.items ≡ most_items;
}
