use Rattle.ls_shell.proofs.Vocabulary.{◌+◌, ◌-◌, ◌≤◌, IsExtended, longest_script}
use Rattle.ls_shell.proofs.Pieces.{HasRead}
use Rattle.ls_shell.proofs.reading.answer_pieces.Given as goal

abbrev pub invariant-pieces : goal.invariant-pieces
invariant-pieces g l = record {
  read : HasRead (g.S.Source.left l.fn.src) (g.S.Source.left l.src) l.count l.run (g.H.Shelf.files l.fn.shelf) (g.H.Shelf.files l.shelf) (g.H.Shelf.faults l.fn.shelf) (g.H.Shelf.faults l.shelf) (g.K.Sink.written l.fn.out) (g.K.Sink.written l.out);
  few : l.count ≤ longest_script;
  shelf_later : g.H.Shelf.faults l.fn.shelf ≤ g.H.Shelf.faults l.shelf;
  kept : IsExtended (g.K.Sink.written l.fn.out) (g.K.Sink.written l.out);
  source_later : g.S.Source.faults l.fn.src ≤ g.S.Source.faults l.src;
  sink_later : g.K.Sink.faults l.fn.out ≤ g.K.Sink.faults l.out;
}

abbrev pub decreases-pieces : goal.decreases-pieces
decreases-pieces g l = longest_script + 1 - l.count
