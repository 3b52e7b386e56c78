-- Faults of class tables.
use Rattle.std.specs.Prelude.{◌≡◌, ℕ, List, Option, None, Result, Err, ⊤}
use Rattle.ls_theory.specs.{Row}
use Rattle.ls_class.specs.declared.class_fault.ClassFault.{ClassFault}
use Rattle.ls_class.specs.declared.class_fault.ClassFault.TheVariants.{BadClass, Memory}

-- the fault is that of the reading of a table, unless memory ran out
abbrev pub IsClassFaultOf : Result (List Row) ℕ → ClassFault → Type 0
IsClassFaultOf reading (Memory e) = ⊤
IsClassFaultOf reading (BadClass row) = reading ≡ Err row

-- the same of one record
abbrev pub IsRowFault : Option Row → ℕ → ClassFault → Type 0
IsRowFault found row (Memory e) = ⊤
IsRowFault found row (BadClass bad) = (found ≡ None) × (bad ≡ row)
