use Rattle.ls_write.proofs.Vocabulary.{List, Says, ℕ, atoms_at, clause_text, drop, false, filter, is_atom_at, listed}
use Rattle.ls_write.proofs.Listed.{Completes}
use Rattle.ls_write.proofs.surmise.put_atoms.Given as goal

-- what was said, with the atoms that are left, is all atoms
abbrev pub invariant-loop-place : goal.invariant-loop-place
invariant-loop-place g l =
    (given : List ℕ) × record {
      said : Says (g.K.Sink.written l.fn.out) (g.K.Sink.faults l.fn.out) l.fn.room (g.K.Sink.written l.out) (g.K.Sink.faults l.out) l.room given;
      left : Completes (clause_text l.texts) given l.later (filter (is_atom_at l.sets l.item) (drop l.place l.sets)) (listed (clause_text l.texts) false (atoms_at l.sets l.item));
    }
