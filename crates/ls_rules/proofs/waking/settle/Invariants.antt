use Rattle.ls_rules.proofs.Vocabulary.{◌*◌, ◌+◌, IsWithin, Items, Settling, len}
use Rattle.ls_rules.proofs.waking.settle.Given as goal

abbrev pub invariant-loop-i : goal.invariant-loop-i
invariant-loop-i l = record {
  settling : (first : Items) → Settling l.rules first l.fn.round → Settling l.rules first l.round;
  keeps : IsWithin l.keep l.fn.round.kept → IsWithin l.keep l.round.kept;
  part : IsWithin l.round.kept l.fn.round.kept;
}

-- an item that falls out of the kept set is looked at once
abbrev pub decreases-loop-i : goal.decreases-loop-i
decreases-loop-i l = 2 * len l.round.kept + len l.round.fallen
