use Rattle.ls_weight.proofs.Vocabulary.{◌*◌, ◌+◌, ◌<◌, ◌∙◌, ◌≡◌, ap, arith, cases_lt, cond, eqb, get_or, get_or-set_other, inl, inr, length, length-map, map, map-set}
use Rattle.ls_weight.proofs.Passing.{cell-added, number-at}
use Rattle.ls_weight.proofs.passes.add_weight.Goals as goal

pub loop-g-preserved : goal.loop-g-preserved
loop-g-preserved g c =
    let number = g.T.Amount.number in
    let h = c.loop-g.g in
    let b = get_or c.args.row.now h 0 in
    let byte : b < 256 = omega (arith, c.type_inv.row h) in
    let cells = map number c.loop-g.tables in
    let y = c.plus.result in
    let is : number y ≡ get_or cells (256 * h + b) 0 + number c.args.weight = c.plus.ensures ∙ ap (λ n. n + number c.args.weight) (number-at number c.loop-g.tables (256 * h + b) c.index-tables-cell.result (omega (arith, c.requires.each)) c.index-tables-cell.is) in
    let long : length cells ≡ length c.loop-g.tables = length-map c.loop-g.tables number in
    rw (map-set number c.loop-g.tables (256 * h + b) y) (record {
      done = λ k v l a. elim (cases_lt k h) [
        | inl lt ↦ get_or-set_other cells (256 * h + b) (256 * k + v) (number y) 0 (omega arith) ∙ c.loop-g.invariant.done k v lt a
        | inr ge ↦
            let same : k ≡ h = omega arith in
            rw (same, is) (cell-added cells (256 * h) b v (number c.args.weight) (omega arith) ∙ ap (λ n. n + cond (eqb b v) (number c.args.weight) 0) (c.loop-g.invariant.left h v (omega arith) a))
      ];
      left = λ k v l a. get_or-set_other cells (256 * h + b) (256 * k + v) (number y) 0 (omega arith) ∙ c.loop-g.invariant.left k v (omega arith) a;
    })
