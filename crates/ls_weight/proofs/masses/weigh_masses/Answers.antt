use Rattle.ls_weight.proofs.Vocabulary.{◌%◌, ◌*◌, ◌+◌, ◌-◌, ◌/◌, ◌∙◌, ◌≡◌, ◌≤◌, ℕ, arith, cases_lt, cells_with, get_or, inl, inr, length, length-map, map, refl, row_at, table_cells, width_of}
use Rattle.ls_weight.proofs.Passing.{written-done, written-left}
use Rattle.ls_weight.proofs.Folding.{fold-all, fold-digit, fold-next, half-within, unfolded}
use Rattle.ls_weight.proofs.masses.weigh_masses.Goals as goal

pub loop-q-init : goal.loop-q-init
loop-q-init g c = record {
  done = λ q l. absurd (omega arith);
  left = λ q l. refl;
  folded = λ l. unfolded (map g.T.Amount.number c.args.tables.now) (map g.T.Amount.number c.args.tables.now) 0 (width_of (length c.args.masses.now)) (length-map c.args.tables.now g.T.Amount.number ∙ c.requires.tables) (omega arith) (λ k b. refl);
  behind = λ k l. refl;
}

pub fold-with-requires-clause-within : goal.fold-with-requires-clause-within
fold-with-requires-clause-within g c =
    let half = half-within (c.loop-q.q % 8) (omega arith) in
    omega (arith, c.requires.tables)

pub fold-with-requires-clause-fits : goal.fold-with-requires-clause-fits
fold-with-requires-clause-fits g c =
    let q = c.loop-q.q in
    let all = fold-all (q % 8) (map g.T.Amount.number c.loop-q.tables) (table_cells * (q / 8)) (row_at (map g.T.Amount.number c.args.tables.now) table_cells (q / 8)) (omega arith) (c.loop-q.invariant.folded (omega arith)) in
    let sums = c.requires.sums (q / 8) (omega arith) in
    omega arith

pub sum_after-requires-clause-fits : goal.sum_after-requires-clause-fits
sum_after-requires-clause-fits g c =
    let q = c.loop-q.q in
    let own = c.loop-q.invariant.left q (omega arith) in
    let digit = fold-digit (q % 8) (map g.T.Amount.number c.loop-q.tables) (table_cells * (q / 8)) (row_at (map g.T.Amount.number c.args.tables.now) table_cells (q / 8)) (omega arith) (c.loop-q.invariant.folded (omega arith)) in
    rw (own, (c.weight.ensures ∙ c.fold-with.ensures.result), digit) (c.requires.fits q (omega arith))

pub loop-q-preserved : goal.loop-q-preserved
loop-q-preserved g c =
    let q = c.loop-q.q in
    let row = row_at (map g.T.Amount.number c.args.tables.now) table_cells (q / 8) in
    let start = table_cells * (q / 8) in
    let here = c.loop-q.invariant.folded (omega arith) in
    let own = c.loop-q.invariant.left q (omega arith) in
    let digit = (c.weight.ensures ∙ c.fold-with.ensures.result) ∙ fold-digit (q % 8) (map g.T.Amount.number c.loop-q.tables) start row (omega arith) here in
    let mass = rw (own, digit) at c.sum_after.ensures in
    let half = half-within (q % 8) (omega arith) in
    let behind : (k : ℕ) → table_cells * (q / 8 + 1) ≤ k → get_or (map g.T.Amount.number c.fold-with.new.tables) k 0 ≡ get_or (map g.T.Amount.number c.args.tables.now) k 0 =
    λ k l. c.fold-with.ensures.behind k (omega arith) ∙ c.loop-q.invariant.behind k l in
    record {
      done = written-done c.loop-q.masses q c.sum_after.result (λ q. c.args.ratio.b * get_or c.args.masses.now q 0 + (c.args.ratio.a - c.args.ratio.b) * cells_with (row_at (map g.T.Amount.number c.args.tables.now) table_cells (q / 8)) (q % 8)) c.loop-q.invariant.done (omega arith) mass;
      left = written-left c.loop-q.masses q c.sum_after.result (λ q. get_or c.args.masses.now q 0) c.loop-q.invariant.left;
      folded = λ l. elim (cases_lt (q % 8) 7) [
        | inl lt ↦
            let group : (q + 1) / 8 ≡ q / 8 = omega arith in
            let digit : (q + 1) % 8 ≡ q % 8 + 1 = omega arith in
            rw (group, digit) (fold-next (q % 8) (map g.T.Amount.number c.loop-q.tables) (map g.T.Amount.number c.fold-with.new.tables) start row (omega arith) here c.fold-with.ensures.pairs)
        | inr ge ↦
            let group : (q + 1) / 8 ≡ q / 8 + 1 = omega arith in
            let digit : (q + 1) % 8 ≡ 0 = omega arith in
            rw (group, digit) (unfolded (map g.T.Amount.number c.args.tables.now) (map g.T.Amount.number c.fold-with.new.tables) (q / 8 + 1) (width_of (length c.args.masses.now)) (length-map c.args.tables.now g.T.Amount.number ∙ c.requires.tables) (omega arith) behind)
      ];
      behind = λ k l. behind k (omega arith);
    }
