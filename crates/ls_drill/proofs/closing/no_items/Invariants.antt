use Rattle.ls_drill.proofs.Vocabulary.{◌≡◌, empty, replicate}
use Rattle.ls_drill.proofs.closing.no_items.Given as goal

abbrev pub invariant-loop : goal.invariant-loop
invariant-loop l = l.after.items ≡ replicate l.counter empty
