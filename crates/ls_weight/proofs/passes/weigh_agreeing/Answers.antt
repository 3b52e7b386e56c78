use Rattle.ls_weight.proofs.Vocabulary.{◌*◌, ◌+◌, ◌<◌, ◌∙◌, ◌≡◌, ◌≤◌, ℕ, agrees_in, ap, arith, cond, eqb, false, get_or, length, row_at, sym, table_cells}
use Rattle.ls_weight.proofs.SumsBelow.{sum_below-none}
use Rattle.ls_weight.proofs.Passing.{cell-fits, cell-next, cell-over, column-agrees, row-full, row-index, row-is, row-long, some-fit, weighed-none, weighed-next}
use Rattle.ls_weight.proofs.passes.weigh_agreeing.Goals as goal

pub loop-i-init : goal.loop-i-init
loop-i-init g c =
    let first = c.first_from-i.ensures in
    let none : (k : ℕ) → 0 ≤ k → k < c.first_from-i.result.0 → k < length c.args.weights.now → agrees_in (row_at c.args.bytes.now c.args.width k) c.args.reply ≡ false =
    λ k a b d. sym (column-agrees c.args.column.now c.args.bytes.now c.args.width (length c.args.weights.now) k c.args.reply c.requires.column d) ∙ first.none k a b in
    record {
      weighed = weighed-none _ c.args.ratio.a c.args.weights.now c.first_from-i.result.0 (λ k b d. none k (omega arith) b d);
      cells = λ h v l k.
          c.clear.ensures (table_cells * h + v)
          ∙ sym (sum_below-none _)
          ∙ cell-over c.args.bytes.now c.args.width c.args.reply c.args.weights.now 0 c.first_from-i.result.0 h v (omega arith) none;
      here = λ l. sym (column-agrees c.args.column.now c.args.bytes.now c.args.width (length c.args.weights.now) _ c.args.reply c.requires.column l) ∙ first.agrees (omega (arith, c.requires.column.long));
      digits = λ l. first.digits (omega (arith, c.requires.column.long));
    }

pub weigh_state-requires-clause-own : goal.weigh_state-requires-clause-own
weigh_state-requires-clause-own g c =
    let own = c.loop-i.invariant.weighed.left c.loop-i.i (omega arith) in
    let part = some-fit (λ k. false) c.args.weights.now c.loop-i.i (omega arith) in
    omega (arith, c.requires.fits)

pub weigh_state-requires-clause-fits : goal.weigh_state-requires-clause-fits
weigh_state-requires-clause-fits g c = rw (row-is c.args.bytes.now c.args.width c.loop-i.i) (λ h l.
    let row = row_at c.args.bytes.now c.args.width c.loop-i.i in
    let short = row-long c.args.bytes.now c.args.width c.loop-i.i h l in
    let v = get_or row h 0 in
    let byte = c.type_inv.bytes (c.args.width * c.loop-i.i + h) in
    let index = row-index c.args.bytes.now c.args.width c.loop-i.i h 0 short in
    let cell = c.loop-i.invariant.cells h v short (omega arith) in
    let own = c.loop-i.invariant.weighed.left c.loop-i.i (omega arith) in
    let within : c.loop-i.i < length c.args.weights.now = omega arith in
    let fits = cell-fits c.args.bytes.now c.args.width c.args.reply c.args.weights.now c.loop-i.i h v within in
    omega arith)

pub loop-i-preserved : goal.loop-i-preserved
loop-i-preserved g c =
    let i = c.loop-i.i in
    let j = c.step-next.result.0 in
    let next = c.step-next.ensures in
    let row = row_at c.args.bytes.now c.args.width i in
    let is = row-is c.args.bytes.now c.args.width i in
    let within : i < length c.args.weights.now = omega arith in
    let own = c.loop-i.invariant.weighed.left i (omega arith) in
    let here = c.loop-i.invariant.here within in
    let weight = rw own at c.weigh_state.ensures.weight in
    let cells = rw (is, own) at c.weigh_state.ensures.cells in
    let none : (k : ℕ) → i + 1 ≤ k → k < j → k < length c.args.weights.now → agrees_in (row_at c.args.bytes.now c.args.width k) c.args.reply ≡ false =
    λ k a b d. sym (column-agrees c.args.column.now c.args.bytes.now c.args.width (length c.args.weights.now) k c.args.reply c.requires.column d) ∙ next.none k a b in
    record {
      weighed = weighed-next (λ k. agrees_in (row_at c.args.bytes.now c.args.width k) c.args.reply) c.args.ratio.a c.args.weights.now c.loop-i.weights i j c.weigh_state.new.weight c.loop-i.invariant.weighed (omega arith) within here weight next.later none;
      cells = λ h v l k.
          let before = c.loop-i.invariant.cells h v l k in
          let added = cells h v (omega (arith, row-full c.args.bytes.now c.args.width (length c.args.weights.now) i c.requires.rows within)) k in
          let then = rw here at (cell-next c.args.bytes.now c.args.width c.args.reply c.args.weights.now i h v) in
          added ∙ ap (λ n. n + cond (eqb (get_or row h 0) v) (get_or c.args.weights.now i 0) 0) before ∙ then ∙ cell-over c.args.bytes.now c.args.width c.args.reply c.args.weights.now (i + 1) j h v next.later none;
      here = λ l. sym (column-agrees c.args.column.now c.args.bytes.now c.args.width (length c.args.weights.now) j c.args.reply c.requires.column l) ∙ next.agrees (omega (arith, c.requires.column.long));
      digits = λ l. next.digits (omega (arith, c.requires.column.long));
    }

pub returns-clause-tables : goal.returns-clause-tables
returns-clause-tables g c = λ h v l k.
    c.loop-i.invariant.cells h v l k
    ∙ sym (cell-over c.args.bytes.now c.args.width c.args.reply c.args.weights.now (length c.args.weights.now) c.loop-i.i h v (omega arith) (λ k a b d. absurd (omega arith)))
