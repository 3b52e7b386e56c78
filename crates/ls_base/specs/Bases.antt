-- Bases: what contracts see of them.
use Rattle.std.specs.Prelude.{ℕ, ◌≡◌, ◌<◌, ◌≤◌, List, map, length, Result, Err, ⊤}
use Rattle.std.specs.List.{range_with_len}
use Rattle.ls_set.specs.{Items, empty, most_items, set_of, with}
use Rattle.ls_theory.specs.{atom_items, base, most_base_sets}
use Rattle.ls_laws.specs.Spans.{spanned}
use Rattle.ls_base.specs.declared.fault.PastFault.{PastFault}
use Rattle.ls_base.specs.declared.fault.PastFault.TheVariants as Limit
use Rattle.ls_theory.specs.declared.base_fault.BaseFault.{BaseFault}
use Rattle.ls_theory.specs.declared.base_fault.BaseFault.TheVariants.{Past, Memory}

-- a number of items, and sets of them
pub record BaseState : Type 0 where
  pub item_count : ℕ
  pub sets : List Items

-- the family of all unions of the sets
abbrev pub family : BaseState → List Items
family b = spanned b.item_count b.sets

-- the sets are the base of the family of their unions, and there are not too many
pub record IsBase (b : BaseState) : Type 0 where
  pub few_items : b.item_count ≤ most_items
  pub is_base : base (family b) ≡ b.sets
  pub few : length b.sets ≤ most_base_sets

-- ---- atoms

-- the items at which a member is an atom
abbrev pub own_items : List Items → Items → Items
own_items f k = set_of (atom_items f k)

-- ---- faults

-- the fault is that of the definition, unless memory ran out
abbrev pub IsBaseFault : Result (List Items) BaseFault → BaseFault → Type 0
IsBaseFault answer (Memory e) = ⊤
IsBaseFault answer fault = answer ≡ Err fault

-- the base has too many sets, as many as are told, unless memory ran out
abbrev pub IsPastOf : List Items → PastFault → Type 0
IsPastOf sets (Limit.Past count) = (most_base_sets < length sets) × (count ≡ length sets)
IsPastOf sets (Limit.Memory e) = ⊤

-- more sets than a base has were given, unless memory ran out
abbrev pub IsOfMany : List Items → PastFault → Type 0
IsOfMany given (Limit.Past count) = most_base_sets < length given
IsOfMany given (Limit.Memory e) = ⊤

abbrev pub base_fault : PastFault → BaseFault
base_fault (Limit.Past count) = Past count
base_fault (Limit.Memory e) = Memory e

-- each of the n items alone
abbrev pub single_sets : ℕ → List Items
single_sets n = map (with empty) (range_with_len 0 n)
