use Rattle.ls_drill.proofs.Vocabulary.{◌++◌, ◌-◌, ◌∙◌, ◌≡◌, Lcg, List, ℕ, ap₂, arith, drawn, numbers_from, pairs, related, subst}
use Rattle.ls_drill.proofs.DrawnPairs.{first-row, next-row, last-row}
use Rattle.ls_drill.proofs.drawing.related_pairs.Goals as goal

pub loop-i-init : goal.loop-i-init
loop-i-init c =
    let n = c.args.n in
    ap₂ (λ (l : List (ℕ × ℕ)) (g : Lcg). l ++ drawn g (pairs (numbers_from 0 (n - 0)))) c.new-pairs.ensures.items c.new-generator.ensures ∙ first-row n c.args.number

pub loop-i-preserved : goal.loop-i-preserved
loop-i-preserved c =
    next-row c.args.n c.loop-i.i c.loop-i.generator c.draw_row.new.generator c.loop-i.pairs.items c.draw_row.new.pairs.items (related c.args.n c.args.number) c.loop-i-test.true
    c.in_ok-draw_row.ensures.pairs c.in_ok-draw_row.ensures.generator c.loop-i.invariant

pub returns : goal.returns
returns c =
    let n = c.args.n in
    let e : c.loop-i.i ≡ n = omega arith in
    last-row n c.loop-i.generator c.loop-i.pairs.items (related n c.args.number)
    (subst (λ i. c.loop-i.pairs.items ++ drawn c.loop-i.generator (pairs (numbers_from i (n - i))) ≡ related n c.args.number) e c.loop-i.invariant)
