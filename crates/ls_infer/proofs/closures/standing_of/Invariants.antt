use Rattle.ls_infer.proofs.Vocabulary.{◌*◌, ◌+◌, ◌≡◌, ◌≤◌, AreStates, ℕ, blocks, closure, drop, full, is_good, list_all, map, standing, take, true}
use Rattle.ls_infer.proofs.closures.standing_of.Given as goal

-- what is kept of the answers so far, those that are left are good, and the steps
abbrev pub invariant-loop-answer : goal.invariant-loop-answer
invariant-loop-answer g l = record {
  list : AreStates (g.I.Interior.members l.f) l.initial.witnesses → AreStates (g.I.Interior.members l.f) l.witnesses
      × ((k : ℕ) → l.closures ≡ map (closure (full (g.I.Interior.item_count l.f)) (g.I.Interior.members l.f)) (blocks (g.I.Interior.item_count l.f) k)
      → l.kept.items ≡ map (standing (g.I.Interior.item_count l.f) (g.I.Interior.members l.f)) (take l.answer-index l.answers));
  left : list_all (λ a. is_good (g.I.Interior.item_count l.f) a.query) (drop l.answer-index l.answers) ≡ true;
  cost : l.steps ≤ l.fn.steps + (g.I.Interior.item_count l.f + 1) * l.answer-index;
}
