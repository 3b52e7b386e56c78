use Rattle.ls_write.proofs.Vocabulary.{List, Says, ℕ, false, items, listed, names_of_set, quoted, quoted_name}
use Rattle.ls_write.proofs.Listed.{Completes}
use Rattle.ls_write.proofs.surmise.put_quoted_names.Given as goal

-- what was said, with the names that are left, is all names
abbrev pub invariant-loop-item : goal.invariant-loop-item
invariant-loop-item g l =
    (given : List ℕ) × record {
      said : Says (g.K.Sink.written l.fn.out) (g.K.Sink.faults l.fn.out) l.fn.room (g.K.Sink.written l.out) (g.K.Sink.faults l.out) l.room given;
      left : Completes (quoted_name l.texts) given l.later (items l.item-iterator) (listed quoted false (names_of_set l.texts l.fn.set));
    }
