use Rattle.ls_columns.proofs.Vocabulary.{ap, arith, empty, get_or_default, has, has-empty, has-union, inl, inr, least-cases, len-without_least, length, or_cases, sym, true≢false, without-within, ◌<◌, ◌∙◌}
use Rattle.ls_columns.proofs.falling.falling_with.Goals as goal

pub loop-i-init : goal.loop-i-init
loop-i-init c = record { only = λ j h. absurd (true≢false (sym h ∙ ap (λ s. has s j) c.empty-with.ensures ∙ has-empty j)); part = λ i h. h }

pub loop-i-smaller : goal.loop-i-smaller
loop-i-smaller c = rw c.without-left.ensures (len-without_least c.loop-i.left c.in-Some.i (sym c.least.ensures.value ∙ c.in-Some.is))

pub loop-i-preserved : goal.loop-i-preserved
loop-i-preserved c =
    let i = c.in-Some.i in
    let sets = c.args.falling.now in
    let here = least-cases c.loop-i.left i (sym c.least.ensures.value ∙ c.in-Some.is) in
    let bound : i < length sets = omega (arith, c.in-Some.ensures.place, c.requires) in
    let read = c.index-falling-i.is ∙ get_or_default sets i c.index-falling-i.result empty bound in
    record {
      only = λ j h. elim (or_cases (has c.loop-i.with j) (has c.index-falling-i.result j) (sym (has-union c.loop-i.with c.index-falling-i.result j) ∙ ap (λ s. has s j) (sym c.union-with.ensures) ∙ h)) [
        | inl y ↦ c.loop-i.invariant.only j y
        | inr y ↦ (i, c.loop-i.invariant.part i here.0, ap (λ s. has s j) (sym read) ∙ y)
      ];
      part = λ j h. c.loop-i.invariant.part j (without-within c.loop-i.left i j (ap (λ s. has s j) (sym c.without-left.ensures) ∙ h));
    }
