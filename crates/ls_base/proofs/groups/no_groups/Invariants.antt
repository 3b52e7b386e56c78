use Rattle.ls_base.proofs.Vocabulary.{◌≡◌, Items, Some, length, slice_get, ℕ, []}
use Rattle.std.specs.Prelude.{Vec}
use Rattle.std.specs.declared.alloc.Global.{Global}
use Rattle.ls_base.proofs.groups.no_groups.Given as goal

abbrev pub invariant-loop : goal.invariant-loop
invariant-loop l = record {
  many : length l.groups.items ≡ l.counter;
  none : (i : ℕ) (v : Vec Items Global) → slice_get l.groups.items i ≡ Some v → v.items ≡ [];
}
