-- Closures of block sets, each from that of the set without one of its items.
--     IsKeptClosure n f e      the set has the closure that is kept with it, unless it is empty
--     AreFirst n f b cs      the closures are those of the first sets of the blocks
use Rattle.std.specs.Prelude.{ℕ, ◌≡◌, true, List, map, take, length}
use Rattle.ls_set.specs.{Items, full, has}
use Rattle.ls_theory.specs.{BlockRange, closure}
use Rattle.ls_query.specs.Blocks.{block_sets}
use Rattle.ls_infer.specs.declared.block_closures.KeptClosure.{KeptClosure}

abbrev pub IsKeptClosure : ℕ → List Items → KeptClosure → Type 0
IsKeptClosure n f e = (i : ℕ) → has e.set i ≡ true → e.closed ≡ closure (full n) f e.set

abbrev pub AreFirst : ℕ → List Items → BlockRange → List Items → Type 0
AreFirst n f b cs = cs ≡ map (closure (full n) f) (take (length cs) (block_sets b))
