use Rattle.std.proofs.Common.{length}
use Rattle.ls_origins.specs.Safe.{waiting}
use Rattle.ls_safe.specs.Interviews.{AreWitnesses, IsOnWay}
use Rattle.ls_base.specs.Bases.{family}
use Rattle.ls_safe.proofs.turning.settle.Given as goal

abbrev pub invariant-loop-settled : goal.invariant-loop-settled
invariant-loop-settled l = record {
  way : IsOnWay l.fn.b l.fn.answers.items l.settled l.answers.items;
  witnesses :
      AreWitnesses l.fn.b.item_count (family l.settled) l.answers.items l.witnesses.items;
}

-- fewer answers wait after each pass
abbrev pub decreases-loop-settled : goal.decreases-loop-settled
decreases-loop-settled l = length (waiting l.answers.items)
