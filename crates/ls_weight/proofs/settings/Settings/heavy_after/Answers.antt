use Rattle.ls_weight.proofs.Vocabulary.{◌*◌, ◌+◌, ◌^◌, ◌∙◌, ◌≤◌, ap, arith, mul-le, pow-zero, suc, sym}
use Rattle.ls_theory.specs.Settings.{Settings, greatest}
use Rattle.ls_weight.proofs.Heavy.{heavy-start, heavy-next, heavy-here, heavy-none, total-next, greatest-most}
use Rattle.ls_weight.proofs.settings.Settings.heavy_after.Goals as goal

pub loop-replies-init : goal.loop-replies-init
loop-replies-init c =
    let one = pow-zero (greatest c.args.self.now.ratios) in
    record {
      total = sym (ap (λ n. c.args.count * n) one ∙ omega arith);
      left = heavy-start c.args.self.now c.args.count;
    }

pub overflow_mul-total : goal.overflow_mul-total
overflow_mul-total c =
    let most : c.greatest-greatest.result ≤ 64 = omega (arith, c.greatest-greatest.ensures ∙ ap greatest c.deref.ensures.value, greatest-most c.self.inside.ratios.items c.self.invariant.ratios) in
    let l = mul-le c.loop-replies.total c.greatest-greatest.result (2 ^ 120) 64 c.if-total-gt-GREATEST_TOTAL.false most in
    omega (arith, l)

pub loop-replies-preserved : goal.loop-replies-preserved
loop-replies-preserved c =
    let s = c.args.self.now in
    let g = c.greatest-greatest.ensures ∙ ap greatest c.deref.ensures.value ∙ ap (λ (s : Settings). greatest s.ratios) c.self.view_is in
    let end : c.loop-replies.replies ≤ s.budget = omega (arith, c.loop-replies-test.true, ap (λ (s : Settings). s.budget) c.self.view_is) in
    record {
      total = ap (λ n. c.loop-replies.total * n) g ∙ total-next c.args.count (greatest s.ratios) c.loop-replies.replies c.loop-replies.total c.loop-replies.invariant.total;
      left = heavy-next s c.args.count c.loop-replies.replies c.loop-replies.total c.loop-replies.invariant.left end c.loop-replies.invariant.total c.if-total-gt-GREATEST_TOTAL.false;
    }

pub returns-then-total-gt-GREATEST_TOTAL : goal.returns-then-total-gt-GREATEST_TOTAL
returns-then-total-gt-GREATEST_TOTAL c =
    let s = c.args.self.now in
    let end : c.loop-replies.replies ≤ s.budget = omega (arith, c.loop-replies-test.true, ap (λ (s : Settings). s.budget) c.self.view_is) in
    heavy-here s c.args.count c.loop-replies.replies c.loop-replies.total c.loop-replies.invariant.left end c.loop-replies.invariant.total c.if-total-gt-GREATEST_TOTAL.true

pub returns-else-total-gt-GREATEST_TOTAL : goal.returns-else-total-gt-GREATEST_TOTAL
returns-else-total-gt-GREATEST_TOTAL c =
    let s = c.args.self.now in
    let budget = ap (λ (s : Settings). s.budget) c.self.view_is in
    let end : c.loop-replies.replies ≤ s.budget = omega (arith, c.loop-replies-test.true, budget) in
    let last : suc s.budget ≤ c.loop-replies.replies + 1 = omega (arith, budget) in
    heavy-none s c.args.count (c.loop-replies.replies + 1) (heavy-next s c.args.count c.loop-replies.replies c.loop-replies.total c.loop-replies.invariant.left end c.loop-replies.invariant.total c.if-total-gt-GREATEST_TOTAL.false) last

pub returns : goal.returns
returns c = absurd (omega arith)
