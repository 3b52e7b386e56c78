-- Atoms and bases of a family, and the base of listed sets.
use Rattle.std.specs.Prelude.{ℕ, suc, Bool, not, ◌&&◌, nat_lt, if◌then◌else◌, List, []}
use Rattle.std.specs.Prelude.{map, filter, find, length, take, Option, option_map, Result, Ok, Err}
use Rattle.std.specs.List.{list_any}
use Rattle.std.specs.Option.{option_map_or}
use Rattle.ls_set.specs.{Items, full, has, is_same, is_within, items, least, minus}
use Rattle.ls_set.specs.{numbers_from, set_of}
use Rattle.ls_set.specs.declared.query.Query.{Query}
use Rattle.ls_theory.specs.declared.base_fault.BaseFault.{BaseFault}
use Rattle.ls_theory.specs.declared.base_fault.BaseFault.TheVariants.{NotSpanning, Past}
use Rattle.ls_theory.specs.Families.{unions}
use Rattle.ls_theory.specs.Starts.{Start, Sets}
use Rattle.ls_theory.specs.Interviews.{Interview, yes_queries}
use Rattle.ls_theory.specs.Compatible.{compat}

-- the member K is an atom at q: it has q, and no proper subset of it in the family has q
abbrev pub is_atom_at : List Items → ℕ → Items → Bool
is_atom_at f q k = has k q && not (list_any (λ l. has l q && is_within l k && not (is_same l k)) f)

-- the atoms at q: the clauses of q in the surmise function of the family
abbrev pub atoms_at : List Items → ℕ → List Items
atoms_at f q = filter (is_atom_at f q) f

-- the items at which K is an atom
abbrev pub atom_items : List Items → Items → List ℕ
atom_items f k = filter (λ q. is_atom_at f q k) (items k)

-- the base: the members that are atoms at some item
unfoldable pub base : List Items → List Items
base f = filter (λ k. list_any (λ q. is_atom_at f q k) (items k)) f

-- for each base set the items at which it is an atom
abbrev pub atom_sets : List Items → List Items
atom_sets f = map (λ k. set_of (atom_items f k)) (base f)

-- the size of the base of the compatible sets under the first j Yes answers
abbrev pub base_size : ℕ → Start → List Query → ℕ → ℕ
base_size n start yeses j = length (base (compat n start (take j yeses)))

-- a number of Yes answers, and the size of the base under them
pub record Peak : Type 0 where
  pub position : ℕ
  pub count : ℕ

-- the peak: the least number of first Yes answers under which the base has more sets than the limit
unfoldable pub peak : ℕ → ℕ → Start → List Query → Option Peak
peak limit n start yeses =
    let size = base_size n start yeses in
    option_map (λ j. record { position = j; count = size j })
    (find (λ j. nat_lt limit (size j)) (numbers_from 0 (suc (length yeses))))

-- the most sets of a base that an interview keeps
abbrev pub most_base_sets : ℕ
most_base_sets = 4096

-- the peak of an interview, whose answers stand in order of number
abbrev pub peak_of : Interview → Option Peak
peak_of i = peak most_base_sets i.count i.start (yes_queries i.answers)

-- ---- the base of listed sets

-- the least of the n items that no set of the list has
abbrev pub first_missing : ℕ → List Items → Option ℕ
first_missing n sets = least (minus (full n) (unions sets))

-- the sets of a base, unless there are too many
abbrev pub limited : List Items → Result (List Items) BaseFault
limited sets = if nat_lt most_base_sets (length sets) then Err (Past (length sets)) else Ok sets

-- the base of all unions of the sets, each of the n items being in some set
abbrev pub based : ℕ → List Items → Result (List Items) BaseFault
based n sets =
    option_map_or (λ q. Err (NotSpanning q)) (first_missing n sets)
    (limited (base (compat n (Sets sets) [])))
