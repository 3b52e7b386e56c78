use Rattle.ls_space.proofs.Vocabulary.{◌≡◌, AreTogether, length}
use Rattle.ls_space.proofs.unions.all_met.Given as goal

abbrev pub invariant-loop-item : goal.invariant-loop-item
invariant-loop-item l = record { count : length l.all.items ≡ l.item; together : AreTogether l.sets l.all.items }
