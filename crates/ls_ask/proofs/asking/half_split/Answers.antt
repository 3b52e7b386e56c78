use Rattle.std.proofs.Common.{ℕ, ◌≡◌, ◌<◌, ◌≤◌, length, unwrap_or, ap, ◌∙◌, sym, arith}
use Rattle.ls_theory.specs.Settings.{Settings}
use Rattle.ls_theory.specs.{half_split, imbalance}
use Rattle.ls_ask.proofs.Nearest.{least-found}
use Rattle.ls_ask.proofs.asking.half_split.Goals as goal

pub returns-clause-value : goal.returns-clause-value
unfolding half_split
returns-clause-value c =
    let w = c.args.w.now in
    let best = c.loop-q.best in
    let tilt = imbalance w.settings.ratios w.replies w.states in
    let count : c.count-q-end.result ≡ length w.settings.ratios =
    c.count-q-end.ensures.value ∙ ap (λ (s : Settings). length s.ratios) c.settings.ensures.value in
    let some : 0 < length w.settings.ratios = c.states.ensures.weighable.some_items in
    let within : best < length w.settings.ratios = omega arith in
    let nearest : (j : ℕ) → j < length w.settings.ratios → tilt best ≤ tilt j =
    λ j h. omega (arith, c.loop-q.invariant.nearest j (omega arith), c.loop-q.invariant.value) in
    let first : (j : ℕ) → j < best → tilt best < tilt j =
    λ j h. omega (arith, c.loop-q.invariant.first j h, c.loop-q.invariant.value) in
    sym (ap (λ q. unwrap_or q 0) (least-found tilt (length w.settings.ratios) best within nearest first))
