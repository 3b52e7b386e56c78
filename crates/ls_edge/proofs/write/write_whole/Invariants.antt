use Rattle.std.proofs.Common.{◌≡◌, ◌≤◌, ℕ, length, take, drop}
use Rattle.std.specs.Io.KnownBytes.{Appends}
use Rattle.ls_edge.proofs.write.write_whole.Given as goal

-- the first n bytes were written, and the rest is what follows them
abbrev pub invariant-loop-rest : goal.invariant-loop-rest
invariant-loop-rest g l = (n : ℕ) × record {
  within : n ≤ length l.bytes;
  follows : l.rest ≡ drop n l.bytes;
  wrote : Appends (g.K.Sink.written l.fn.out) (g.K.Sink.written l.out) (take n l.bytes);
  later : g.K.Sink.faults l.fn.out ≤ g.K.Sink.faults l.out;
}

abbrev pub decreases-loop-rest : goal.decreases-loop-rest
decreases-loop-rest g l = length l.rest
