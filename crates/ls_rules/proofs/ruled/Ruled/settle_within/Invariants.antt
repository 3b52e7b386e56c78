use Rattle.ls_rules.proofs.Vocabulary.{◌≡◌, IsWithin, Settling, is_among, len, true}
use Rattle.ls_rules.proofs.Reaching.{Going}
use Rattle.ls_rules.proofs.ruled.Ruled.settle_within.Given as goal

abbrev pub invariant-rounds : goal.invariant-rounds
invariant-rounds g l = record {
  going : is_among (g.F.Inside.members l.self.inner) l.fn.member ≡ true → Settling l.self.rules l.fn.member l.fn.round → IsWithin l.keep l.fn.round.kept
      → Going (g.F.Inside.members l.self.inner) l.self.rules l.fn.member l.keep l.member l.round;
  part : IsWithin l.round.kept l.fn.round.kept;
}

abbrev pub decreases-rounds : goal.decreases-rounds
decreases-rounds g l = len l.round.kept
