use Rattle.ls_shell.proofs.Vocabulary.{◌++◌, ◌<◌, ◌^◌, ◌≤◌, Answers, Folder, IsExtended, List, ℕ, [], length, lines}
use Rattle.std.specs.declared.option.Option.{Option}
use Rattle.ls_shell.proofs.run.Run.take.Given as goal

-- the lines that ended so far are answered
abbrev pub invariant-loop-rest : goal.invariant-loop-rest
invariant-loop-rest g l = record {
  answered : (m : Folder) (taken : List ℕ) (faults : ℕ) (start : Option (List ℕ)) → length (taken ++ l.fn.piece) < 2 ^ 64
      → Answers m (lines taken) [] l.fn.self (g.H.Shelf.files l.fn.shelf) faults (g.H.Shelf.faults l.fn.shelf) start (g.K.Sink.written l.fn.out)
      → Answers m (lines (taken ++ l.fn.piece)) l.rest l.self (g.H.Shelf.files l.shelf) faults (g.H.Shelf.faults l.shelf) start (g.K.Sink.written l.out);
  shelf_later : g.H.Shelf.faults l.fn.shelf ≤ g.H.Shelf.faults l.shelf;
  kept : IsExtended (g.K.Sink.written l.fn.out) (g.K.Sink.written l.out);
  later : g.K.Sink.faults l.fn.out ≤ g.K.Sink.faults l.out;
}

abbrev pub decreases-loop-rest : goal.decreases-loop-rest
decreases-loop-rest g l = length l.rest
