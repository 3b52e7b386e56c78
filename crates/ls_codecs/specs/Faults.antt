-- What readings of values answer.
--     IsReadAs of answer result      what was read is, as `of` gives it, what the definition
--         answers; or both have none; or memory ran out
--     IsRead answer result      the same of what was read itself
use Rattle.std.specs.Prelude.{◌≡◌, Option, Some, None, Result, Ok, Err, ⊤}
use Rattle.ls_codecs.specs.declared.part_fault.PartFault.{PartFault}
use Rattle.ls_codecs.specs.declared.part_fault.PartFault.TheVariants as part

abbrev pub IsReadAs : {X Y : Type 0} → (Y → X) → Option X → Result Y PartFault → Type 0
IsReadAs of answer (Ok y) = answer ≡ Some (of y)
IsReadAs of answer (Err part.Bad) = answer ≡ None
IsReadAs of answer (Err (part.Memory e)) = ⊤

abbrev pub IsRead : {X : Type 0} → Option X → Result X PartFault → Type 0
IsRead answer result = IsReadAs (λ x. x) answer result
