use Rattle.ls_infer.proofs.Vocabulary.{◌≤◌, AreStates, IsFamily, IsNarrowed, IsWithin, Items, List, ℕ, owed}
use Rattle.ls_infer.proofs.narrowing.narrow.Given as goal

-- what is left of the rest, and the steps that are owed
abbrev pub invariant-loop-state : goal.invariant-loop-state
invariant-loop-state l = record {
  narrowed : (n : ℕ) (f : List Items) → IsFamily n f → AreStates f l.fn.witnesses → IsNarrowed n f l.fn.outside l.q l.fn.rest.items l.rest.items;
  part : IsWithin l.rest.items l.fn.rest.items;
  fewer : owed l.rest ≤ owed l.fn.rest;
}
