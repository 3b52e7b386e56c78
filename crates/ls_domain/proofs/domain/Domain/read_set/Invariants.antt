use Rattle.ls_domain.proofs.Vocabulary.{◌≡◌, IsWithin, drop, first_unnamed, full, items_of, length, shifted, take}
use Rattle.ls_domain.proofs.domain.Domain.read_set.Given as goal

abbrev pub invariant-loop-index : goal.invariant-loop-index
invariant-loop-index l = record {
  set : l.set ≡ items_of l.self (take l.index l.words);
  within : IsWithin l.set (full (length l.self));
  named : first_unnamed l.self l.words ≡ shifted l.index (first_unnamed l.self (drop l.index l.words));
}
