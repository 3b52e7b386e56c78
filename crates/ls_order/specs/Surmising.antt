-- Why a surmise function is no partial order.
use Rattle.std.specs.Prelude.{◌≡◌, Option, Some, ⊤}
use Rattle.ls_origins.specs.declared.relation_fault.RelationFault.{RelationFault}
use Rattle.ls_origins.specs.declared.relation_fault.RelationFault.TheVariants.{Memory}

-- the fault is the one that is found, unless memory ran out
abbrev pub IsRelationFaultOf : Option RelationFault → RelationFault → Type 0
IsRelationFaultOf found (Memory e) = ⊤
IsRelationFaultOf found fault = found ≡ Some fault
