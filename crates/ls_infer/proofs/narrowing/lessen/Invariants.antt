use Rattle.ls_infer.proofs.Vocabulary.{◌+◌, ◌≡◌, ◌≤◌, IsNarrowed, IsWithin, is_among, owed, true}
use Rattle.ls_infer.proofs.narrowing.lessen.Given as goal

-- what is left of the rest, where the state that was given is one, and the steps
abbrev pub invariant-loop-rest : goal.invariant-loop-rest
invariant-loop-rest g l = record {
  narrowed : is_among (g.I.Interior.members l.f) l.fn.state ≡ true → IsNarrowed (g.I.Interior.item_count l.f) (g.I.Interior.members l.f) l.fn.outside l.q l.fn.rest.items l.rest.items;
  member : is_among (g.I.Interior.members l.f) l.fn.state ≡ true → is_among (g.I.Interior.members l.f) l.state ≡ true;
  part : IsWithin l.state l.fn.outside;
  fewer : IsWithin l.rest.items l.fn.rest.items;
  cost : l.steps + owed l.rest ≤ l.fn.steps + owed l.fn.rest;
}

abbrev pub decreases-loop-rest : goal.decreases-loop-rest
decreases-loop-rest g l = owed l.rest
