-- Clauses, and what is wrong with clauses that are read, in whatever order they stand.
-- A clause is told by its item and its number, from 1.
--     flaw n clauses      the first condition of a surmise function on n items that they violate:
--         at the least item, then by its first clause, then with the least other item
--         or the first later clause
use Rattle.std.specs.Prelude.{ℕ, suc, ◌+◌, ◌-◌, Bool, not, ◌||◌, ◌==◌, List, [], ◌∷◌}
use Rattle.std.specs.Prelude.{map, length, find, slice_index_or, Option, None, option_map}
use Rattle.std.specs.List.{list_any, flat_map}
use Rattle.std.specs.Option.{option_or}
use Rattle.ls_set.specs.{Items, empty, has, is_within, items, numbers_from}
use Rattle.ls_theory.specs.declared.surmise_fault.SurmiseFault.{SurmiseFault}
use Rattle.ls_theory.specs.declared.surmise_fault.SurmiseFault.TheVariants.{NoClause, Reflexive}
use Rattle.ls_theory.specs.declared.surmise_fault.SurmiseFault.TheVariants.{NotClosed, Comparable}
use Rattle.ls_theory.specs.Bases.{atoms_at}

-- the clauses of item q; a number that is no item has none
abbrev pub clauses_of : List (List Items) → ℕ → List Items
clauses_of clauses q = slice_index_or clauses q []

-- one item's after the other's
abbrev pub all_clauses : List (List Items) → List Items
all_clauses clauses = flat_map (λ of_item. of_item) clauses

abbrev pub has_clause_within : List (List Items) → ℕ → Items → Bool
has_clause_within clauses q s = list_any (λ c. is_within c s) (clauses_of clauses q)

-- the clauses of an item are the atoms at it
abbrev pub clauses_at : ℕ → List Items → List (List Items)
clauses_at n f = map (atoms_at f) (numbers_from 0 n)

-- ---- flaws

-- the first answer that there is
abbrev pub first_some : {X Y : Type 0} → (X → Option Y) → List X → Option Y
first_some answer [] = None
first_some answer (x ∷ xs) = option_or (answer x) (first_some answer xs)

-- the clause of q at a place, from 0
abbrev pub clause_at : List (List Items) → ℕ → ℕ → Items
clause_at clauses q j = slice_index_or (clauses_of clauses q) j empty

-- the places of the clauses of q
abbrev pub places_of : List (List Items) → ℕ → List ℕ
places_of clauses q = numbers_from 0 (length (clauses_of clauses q))

-- the places after one of them
abbrev pub places_after : List (List Items) → ℕ → ℕ → List ℕ
places_after clauses q i = numbers_from (suc i) (length (clauses_of clauses q) - suc i)

-- one of the two lies within the other
abbrev pub are_comparable : Items → Items → Bool
are_comparable c d = is_within c d || is_within d c

-- the least item without a clause
abbrev pub no_clause : ℕ → List (List Items) → Option SurmiseFault
no_clause n clauses =
    option_map NoClause (find (λ q. length (clauses_of clauses q) == 0) (numbers_from 0 n))

-- the first clause of q that lacks q
abbrev pub lacking_in : List (List Items) → ℕ → Option SurmiseFault
lacking_in clauses q =
    option_map (λ j. Reflexive q (j + 1))
    (find (λ j. not (has (clause_at clauses q j) q)) (places_of clauses q))

-- the least item of a clause of which no clause lies within it
abbrev pub unclosed_at : List (List Items) → ℕ → ℕ → Option SurmiseFault
unclosed_at clauses q j =
    let c = clause_at clauses q j in
    option_map (λ r. NotClosed q (j + 1) r)
    (find (λ r. not (has_clause_within clauses r c)) (items c))

-- the first clause of q with such an item
abbrev pub unclosed_in : List (List Items) → ℕ → Option SurmiseFault
unclosed_in clauses q = first_some (unclosed_at clauses q) (places_of clauses q)

-- the first later clause that is comparable with the clause at a place
abbrev pub comparable_at : List (List Items) → ℕ → ℕ → Option SurmiseFault
comparable_at clauses q i =
    let c = clause_at clauses q i in
    option_map (λ j. Comparable q (i + 1) (j + 1))
    (find (λ j. are_comparable c (clause_at clauses q j)) (places_after clauses q i))

-- the first clause of q with such a later one
abbrev pub comparable_in : List (List Items) → ℕ → Option SurmiseFault
comparable_in clauses q = first_some (comparable_at clauses q) (places_of clauses q)

unfoldable pub flaw : ℕ → List (List Items) → Option SurmiseFault
flaw n clauses =
    option_or (no_clause n clauses)
    (option_or (first_some (lacking_in clauses) (numbers_from 0 n))
    (option_or (first_some (unclosed_in clauses) (numbers_from 0 n))
    (first_some (comparable_in clauses) (numbers_from 0 n))))
