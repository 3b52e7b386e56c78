use Rattle.std.proofs.Common.{ℕ, ◌≡◌, ◌<◌, ◌≤◌}
use Rattle.ls_theory.specs.{imbalance}
use Rattle.ls_ask.proofs.asking.half_split.Given as goal

-- the best so far is the first nearest of the items that were looked at
abbrev pub invariant-loop-q : goal.invariant-loop-q
invariant-loop-q l =
    let tilt : ℕ → ℕ = imbalance l.w.settings.ratios l.w.replies l.w.states in
    record {
      value : l.least ≡ tilt l.best;
      looked_at : l.best < l.q;
      nearest : (j : ℕ) → j < l.q → l.least ≤ tilt j;
      first : (j : ℕ) → j < l.best → l.least < tilt j;
    }
