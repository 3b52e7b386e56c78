use Rattle.ls_infer.proofs.Vocabulary.{◌&&◌, ◌+◌, ◌<◌, ◌||◌, ◌≡◌, ◌≤◌, ℕ, closure, full, has, nat_eq, nat_lt, with}
use Rattle.ls_infer.proofs.enough.enough_for.Given as goal

-- the items so far are those that are enough, and q, and each but q was one step
abbrev pub invariant-loop-r : goal.invariant-loop-r
invariant-loop-r g l = record {
  enough : (i : ℕ) → has l.enough i ≡ (nat_lt i l.r && has (closure (full (g.I.Interior.item_count l.f)) (g.I.Interior.members l.f) (with l.fn.closed i)) l.q || nat_eq i l.q);
  before : l.r ≤ l.q → l.steps ≡ l.fn.steps + l.r;
  past : l.q < l.r → l.steps + 1 ≡ l.fn.steps + l.r;
}
