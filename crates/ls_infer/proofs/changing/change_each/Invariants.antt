use Rattle.ls_infer.proofs.Vocabulary.{◌*◌, ◌+◌, ◌≡◌, ◌≤◌, AreStates, IsChange, Items, List, No, ℕ, blocks, closure, full, images, is_kept, list_all, map, most_steps_each, standing, true}
use Rattle.ls_infer.proofs.changing.change_each.Given as goal

-- those so far are what is kept after the change, those that are left are as they were, the states that are kept, and the steps
abbrev pub invariant-loop-s : goal.invariant-loop-s
invariant-loop-s g l = record {
  kept : list_all (is_kept (g.I.Interior.item_count l.f)) l.kept ≡ true;
  made : (before : List Items) (k : ℕ) (nos : List No) → IsChange l.change (g.I.Interior.item_count l.f) l.r before (g.I.Interior.members l.f)
      → l.closures ≡ map (closure (full (g.I.Interior.item_count l.f)) (g.I.Interior.members l.f)) (blocks (g.I.Interior.item_count l.f) k)
      → AreStates (g.I.Interior.members l.f) l.initial.witnesses → l.initial.kept ≡ map (standing (g.I.Interior.item_count l.f) before) nos
      → (l.kept ≡ images (standing (g.I.Interior.item_count l.f) (g.I.Interior.members l.f)) (standing (g.I.Interior.item_count l.f) before) nos l.s-index) × AreStates (g.I.Interior.members l.f) l.witnesses;
  cost : l.steps ≤ l.fn.steps + most_steps_each l.change (g.I.Interior.item_count l.f) * l.s-index;
}
