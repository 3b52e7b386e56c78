use Rattle.ls_base.proofs.Vocabulary.{◌<◌, ◌≡◌, AreAskable, IsTrail, Start, ℕ, begins_at_none, length, followed_count}
use Rattle.ls_base.proofs.trail.follow_over.Given as goal

abbrev pub invariant-loop-place : goal.invariant-loop-place
invariant-loop-place l = record {
  trail : (n : ℕ) (start : Start) → IsTrail n start l.yeses l.initial.entries.items → IsTrail n start l.yeses l.entries.items;
  askable : AreAskable l.yeses l.entries.items;
  begins : begins_at_none l.entries.items ≡ begins_at_none l.initial.entries.items;
  begun : 0 < length l.entries.items;
  reached : followed_count l.entries.items ≡ l.place;
}
