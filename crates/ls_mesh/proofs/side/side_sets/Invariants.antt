use Rattle.std.proofs.Common.{◌≡◌, ◌++◌, map}
use Rattle.ls_set.specs.ItemSet.{items, full, minus, single}
use Rattle.ls_mesh.proofs.side.side_sets.Given as goal

abbrev pub invariant-loop-item : goal.invariant-loop-item
invariant-loop-item l = record {
  made : l.side.items ≡ l.fn.sets ++ map single l.yielded;
  split : l.yielded ++ items l.item-iterator ≡ items (minus (full l.fn.n) l.fn.part);
}
