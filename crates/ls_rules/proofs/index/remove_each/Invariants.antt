use Rattle.ls_rules.proofs.Vocabulary.{◌≡◌, ℕ, cond, lowered, ltb, places_at}
use Rattle.ls_rules.proofs.index.remove_each.Given as goal

-- the lists before the index have lost the place
abbrev pub invariant-loop-list : goal.invariant-loop-list
invariant-loop-list l = (i : ℕ) → places_at l.lists i ≡ cond (ltb i l.list-index) (lowered l.place (places_at l.initial.lists i)) (places_at l.initial.lists i)
