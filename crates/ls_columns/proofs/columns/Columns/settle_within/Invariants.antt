use Rattle.ls_columns.proofs.Vocabulary.{Falling, IsWithin, is_among, len, true, ◌≡◌}
use Rattle.ls_columns.proofs.Rounds.{Going}
use Rattle.ls_columns.proofs.columns.Columns.settle_within.Given as goal

abbrev pub invariant-rounds : goal.invariant-rounds
invariant-rounds g l = record {
  going : is_among (g.F.Inside.members l.self.inner) l.fn.set ≡ true → Falling l.self.rules l.fn.fallen l.fn.set → IsWithin l.keep l.fn.set → Going (g.F.Inside.members l.self.inner) l.self.rules l.fn.set l.keep l.fallen l.kept;
  part : IsWithin l.kept l.fn.set;
}

abbrev pub decreases-rounds : goal.decreases-rounds
decreases-rounds g l = len l.kept
