use Rattle.ls_infer.proofs.Vocabulary.{◌+◌, ◌≡◌, ◌≤◌, ◌⊎◌, AreStates, IsWithin, ℕ, enough_for, full, has, is_among, len, minus, owed, true}
use Rattle.ls_infer.proofs.Sharing.{IsFound}
use Rattle.ls_infer.proofs.enough.enough_among.Given as goal

-- what is found of the items that are enough, the states that are kept, and the steps that are still owed
abbrev pub invariant-loop-r : goal.invariant-loop-r
invariant-loop-r g l = record {
  found : is_among (g.I.Interior.members l.f) (minus (full (g.I.Interior.item_count l.f)) l.fn.closed) ≡ true → AreStates (g.I.Interior.members l.f) l.fn.witnesses → AreStates (g.I.Interior.members l.f) l.witnesses × (
      IsWithin l.fn.known (enough_for (g.I.Interior.item_count l.f) (g.I.Interior.members l.f) l.fn.closed l.q) →
      ((r : ℕ) → has (enough_for (g.I.Interior.item_count l.f) (g.I.Interior.members l.f) l.fn.closed l.q) r ≡ true → (has l.fn.known r ≡ true) ⊎ (has l.fn.rest.items r ≡ true)) →
      IsFound (enough_for (g.I.Interior.item_count l.f) (g.I.Interior.members l.f) l.fn.closed l.q) l.enough l.rest.items);
  small : IsWithin l.enough (full (g.I.Interior.item_count l.f));
  within : IsWithin l.rest.items l.fn.rest.items;
  cost : l.steps + owed l.rest ≤ l.fn.steps + owed l.fn.rest;
}

abbrev pub decreases-loop-r : goal.decreases-loop-r
decreases-loop-r g l = len l.rest.items
