use Rattle.ls_rules.proofs.Vocabulary.{◌≡◌, len, length}
use Rattle.ls_rules.proofs.Indexing.{Pushing}
use Rattle.ls_rules.proofs.index.push_each.Given as goal

abbrev pub invariant-loop-i : goal.invariant-loop-i
invariant-loop-i l = record {
  pushing : Pushing l.initial.lists l.lists l.fn.set l.left l.place;
  same_length : length l.lists ≡ length l.initial.lists;
}

abbrev pub decreases-loop-i : goal.decreases-loop-i
decreases-loop-i l = len l.left
