use Rattle.ls_surmise.proofs.Vocabulary.{◌++◌, ◌≡◌, items, map, name_of, string, view}
use Rattle.ls_surmise.proofs.printing.clause_value.Given as goal

abbrev pub invariant-loop-item : goal.invariant-loop-item
invariant-loop-item l = record {
  named : map view l.names.items ≡ map string (map (name_of l.d) l.yielded);
  split : l.yielded ++ items l.item-iterator ≡ items l.fn.clause;
}
