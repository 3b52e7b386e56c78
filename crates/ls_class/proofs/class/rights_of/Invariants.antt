use Rattle.ls_class.proofs.Vocabulary.{◌≡◌, length, map, take}
use Rattle.ls_class.proofs.class.rights_of.Given as goal

abbrev pub invariant-loop-place : goal.invariant-loop-place
invariant-loop-place l = record {
  rights : l.rights.items ≡ map (λ row. row.right) (take l.place l.t);
  count : length l.rights.items ≡ l.place;
}
