use Rattle.ls_weight.proofs.Vocabulary.{arith, cases_lt, get_or_past, inl, inr, length-map, map, map-set}
use Rattle.ls_weight.proofs.Passing.{written-done}
use Rattle.ls_weight.proofs.passes.clear.Goals as goal

pub loop-i-preserved : goal.loop-i-preserved
loop-i-preserved g c =
    let number = g.T.Amount.number in
    let tables = c.loop-i.tables in
    let long = length-map tables number in
    rw (map-set number tables c.loop-i.i c.zero.result) (written-done (map number tables) c.loop-i.i (number c.zero.result) (λ k. 0) c.loop-i.invariant (omega arith) c.zero.ensures)

pub returns : goal.returns
returns g c = λ k.
    let number = g.T.Amount.number in
    let long = length-map c.loop-i.tables number in
    elim (cases_lt k c.loop-i.i) [
      | inl lt ↦ c.loop-i.invariant k lt
      | inr ge ↦ get_or_past (map number c.loop-i.tables) k 0 (omega arith)
    ]
