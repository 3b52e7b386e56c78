-- What it is to resolve the words of a command.
use Rattle.std.specs.Prelude.{ℕ, ◌≡◌, List, [], Some, Result, Ok, Err, slice_get, ⊤}
use Rattle.ls_resolve.specs.declared.unnamed.Unnamed.{Unnamed}
use Rattle.ls_resolve.specs.declared.unnamed.ResolveFault.{ResolveFault}
use Rattle.ls_resolve.specs.declared.unnamed.ResolveFault.TheVariants as fault

-- What is meant, where no place is at fault; or else the first place at fault.
abbrev pub Resolves : {X : Type 0} → List ℕ → X → Result X Unnamed → Type 0
Resolves places meant (Ok x) = (x ≡ meant) × (places ≡ [])
Resolves places meant (Err u) = slice_get places 0 ≡ Some u.place

-- the same, unless memory ran out
abbrev pub ResolvesInMemory : {X : Type 0} → List ℕ → X → Result X ResolveFault → Type 0
ResolvesInMemory places meant (Ok x) = (x ≡ meant) × (places ≡ [])
ResolvesInMemory places meant (Err (fault.Unnamed place)) = slice_get places 0 ≡ Some place
ResolvesInMemory places meant (Err (fault.Memory e)) = ⊤
