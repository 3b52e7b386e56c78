-- Surmise functions: what contracts see of them, and which one a base gives.
use Rattle.std.specs.Prelude.{ℕ, ◌<◌, ◌≡◌, false, List, [], length, slice_index_or, Option, Some}
use Rattle.std.specs.Prelude.{Result, Ok, Err, ⊤}
use Rattle.std.specs.Option.{option_map_or}
use Rattle.ls_set.specs.{Items, empty}
use Rattle.ls_theory.specs.Starts.{Clauses}
use Rattle.ls_theory.specs.{are_comparable, base, clauses_at, compat, first_missing}
use Rattle.ls_base.specs.Bases.{BaseState, family}
use Rattle.ls_theory.specs.declared.surmise_fault.SurmiseFault.{SurmiseFault}
use Rattle.ls_theory.specs.declared.surmise_fault.SurmiseFault.TheVariants as surmise
use Rattle.ls_clauses.specs.Surmise.{IsSurmise}
use Rattle.ls_surmise.specs.declared.fault.FromFault.{FromFault}
use Rattle.ls_surmise.specs.declared.fault.FromFault.TheVariants.{NotSpanning, Memory}

-- a number of items, and the clauses of each
pub record SurmiseState : Type 0 where
  pub item_count : ℕ
  pub clauses : List (List Items)

-- the family of the sets that meet the clauses
abbrev pub met_by : SurmiseState → List Items
met_by s = compat s.item_count (Clauses s.clauses) []

-- the clauses are a surmise function, and the base is that of the sets that meet them
pub record IsSurmiseOf (b : BaseState) (clauses : List (List Items)) : Type 0 where
  pub surmise : IsSurmise b.item_count clauses
  pub same : compat b.item_count (Clauses clauses) [] ≡ family b
  pub is_base : base (family b) ≡ b.sets

-- of any two sets of the list neither lies within the other
abbrev pub AreApart : List Items → Type 0
AreApart sets = (i j : ℕ)
    → i < j
    → j < length sets
    → are_comparable (slice_index_or sets i empty) (slice_index_or sets j empty) ≡ false

-- the clauses that a base gives, each item being in some set: those of an item are the atoms at it
abbrev pub surmised : BaseState → Result (List (List Items)) FromFault
surmised b =
    option_map_or (λ q. Err (NotSpanning q)) (first_missing b.item_count b.sets)
    (Ok (clauses_at b.item_count (family b)))

-- the fault is that of the definition, unless memory ran out
abbrev pub IsFromFaultOf : Result (List (List Items)) FromFault → FromFault → Type 0
IsFromFaultOf answer (Memory e) = ⊤
IsFromFaultOf answer fault = answer ≡ Err fault

-- the clauses are too many, unless memory ran out
abbrev pub IsWideOf : Option SurmiseFault → SurmiseFault → Type 0
IsWideOf found (surmise.Memory e) = ⊤
IsWideOf found fault = found ≡ Some fault
