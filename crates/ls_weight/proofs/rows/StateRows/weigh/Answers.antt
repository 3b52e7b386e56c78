use Rattle.ls_weight.proofs.Vocabulary.{◌∙◌, ◌≡◌, AreRows, ap, arith, length, length-map, map, width_of}
use Rattle.ls_weight.proofs.Cells.{AreCells, cells-agreeing, cells-sum}
use Rattle.ls_weight.proofs.Columned.{column-of}
use Rattle.ls_weight.proofs.rows.StateRows.weigh.Goals as goal

pub returns-clause-cells : goal.returns-clause-cells
returns-clause-cells g c = λ q l.
    let cells : AreCells c.deref-2.result.now (width_of c.args.self.now.item_count) c.args.reply c.args.weights.now (map g.T.Amount.number c.weigh.new.tables) = rw (← c.width.ensures) c.weigh.ensures.tables in
    let rows : AreRows c.args.self.now.item_count c.args.self.now.states c.deref-2.result.now = rw (← c.self.view_is, c.deref-2.ensures.value) c.self.invariant.rows in
    cells-agreeing c.args.self.now.item_count c.args.self.now.states c.deref-2.result.now c.args.reply c.args.weights.now (map g.T.Amount.number c.weigh.new.tables) q rows c.weigh.ensures.bytes cells c.requires.each c.requires.item l

pub returns-clause-sums : goal.returns-clause-sums
returns-clause-sums g c = λ h l.
    let cells : AreCells c.deref-2.result.now (width_of c.args.self.now.item_count) c.args.reply c.args.weights.now (map g.T.Amount.number c.weigh.new.tables) = rw (← c.width.ensures) c.weigh.ensures.tables in
    cells-sum c.deref-2.result.now (width_of c.args.self.now.item_count) c.args.reply c.args.weights.now (map g.T.Amount.number c.weigh.new.tables) h c.weigh.ensures.bytes cells (length-map c.weigh.new.tables g.T.Amount.number ∙ (let e : _ ≡ _ = omega arith in e)) l

pub weigh-requires-clause-column : goal.weigh-requires-clause-column
weigh-requires-clause-column g c =
    let item = rw (← c.self.view_is) at c.requires.item in
    rw (c.width.ensures, c.requires.each, ← c.self.view_is, c.deref.ensures.value, c.deref-2.ensures.value) (column-of _ _ _ _ c.args.reply.q c.len.result c.self.invariant.marks item (omega (arith, c.len.ensures, c.deref.ensures.len, ap length c.deref.ensures.value)))
