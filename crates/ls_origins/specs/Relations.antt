-- Relations between items: for each item in turn, the items below it, and the item itself.
--     relation n pairs      that of pairs of a lower and a higher item: their closure under
--         transitivity
--     kept_sets n below      its family: the sets that have, with each item, all items below it
--     covers n below      the pairs of a covered item and one that covers it
--     relation_fault n clauses      what keeps a surmise function from being a partial order
use Rattle.std.specs.Prelude.{ℕ, zero, suc, Bool, not, ◌&&◌, ◌==◌, nat_lt, if◌then◌else◌, List, []}
use Rattle.std.specs.Prelude.{◌∷◌, map, filter, find, length, slice_index_or, Option, option_map}
use Rattle.std.specs.List.{list_any, list_all, flat_map}
use Rattle.std.specs.Option.{option_or}
use Rattle.ls_set.specs.ItemSet.{Items, has, empty, with, single, union, is_within, items}
use Rattle.ls_set.specs.ItemSet.{numbers_from, subsets}
use Rattle.ls_theory.specs.Words.{pairs}
use Rattle.ls_theory.specs.Clauses.{clauses_of}
use Rattle.ls_origins.specs.declared.cover.Cover.{Cover}
use Rattle.ls_origins.specs.declared.relation_fault.RelationFault.{RelationFault}
use Rattle.ls_origins.specs.declared.relation_fault.RelationFault.TheVariants.{TwoClauses, Quasi}

-- the items below q, and q itself
abbrev pub below_of : List Items → ℕ → Items
below_of below q = slice_index_or below q empty

-- the set has with each item all items below it
abbrev pub is_kept : List Items → Items → Bool
is_kept below k = list_all (λ q. is_within (below_of below q) k) (items k)

-- the family of the relation: the sets of the n items that do
unfoldable pub kept_sets : ℕ → List Items → List Items
kept_sets n below = filter (is_kept below) (subsets n)

-- ---- pairs of a lower and a higher item

-- the lower items of the pairs whose higher item is in s
abbrev pub lows : List (ℕ × ℕ) → Items → Items
lows [] s = empty
lows (p ∷ pairs) s = let rest = lows pairs s in if has s p.1 then with rest p.0 else rest

-- s, with such lower items m times in turn
abbrev pub reached : List (ℕ × ℕ) → ℕ → Items → Items
reached pairs zero s = s
reached pairs (suc m) s = reached pairs m (union s (lows pairs s))

-- the relation of the pairs: each item with what pairs lead down to from it
unfoldable pub relation : ℕ → List (ℕ × ℕ) → List Items
relation n pairs = map (λ q. reached pairs n (single q)) (numbers_from 0 n)

-- the closure under transitivity: what at least one pair leads down to from q
abbrev pub strictly_below : ℕ → List (ℕ × ℕ) → ℕ → Items
strictly_below n pairs q = lows pairs (below_of (relation n pairs) q)

-- the least item below itself
abbrev pub first_cycle : ℕ → List (ℕ × ℕ) → Option ℕ
first_cycle n pairs = find (λ q. has (strictly_below n pairs q) q) (numbers_from 0 n)

-- ---- covers

-- x is between r and q, and neither of them
abbrev pub is_between : List Items → ℕ → ℕ → ℕ → Bool
is_between below r q x =
    has (below_of below q) x && (has (below_of below x) r && (not (x == r) && not (x == q)))

-- r is covered by q: it is another item below q, and no third item is above r and below q
abbrev pub is_cover : ℕ → List Items → ℕ → ℕ → Bool
is_cover n below r q =
    has (below_of below q) r
    && (not (r == q) && not (list_any (is_between below r q) (numbers_from 0 n)))

-- the covered pairs, in order of the lower item and then the higher
unfoldable pub covers : ℕ → List Items → List (ℕ × ℕ)
covers n below =
    flat_map (λ r. map (λ q. (r, q)) (filter (is_cover n below r) (numbers_from 0 n)))
    (numbers_from 0 n)

-- a cover as a pair
abbrev pub pair_of : Cover → ℕ × ℕ
pair_of c = (c.low, c.high)

-- ---- relations and surmise functions

-- the surmise function in which each item has one clause, the items below it
abbrev pub clauses_below : List Items → List (List Items)
clauses_below below = map (λ b. b ∷ []) below

-- the first clause of each item
abbrev pub first_clauses : List (List Items) → List Items
first_clauses clauses = map (λ cs. slice_index_or cs 0 empty) clauses

-- the least item with two clauses or more
abbrev pub two_clauses : ℕ → List (List Items) → Option ℕ
two_clauses n clauses = find (λ q. nat_lt 1 (length (clauses_of clauses q))) (numbers_from 0 n)

-- the first two items that are below each other
abbrev pub quasi_pair : ℕ → List Items → Option (ℕ × ℕ)
quasi_pair n below =
    find (λ p. has (below_of below p.1) p.0 && has (below_of below p.0) p.1)
    (pairs (numbers_from 0 n))

-- the first of these that holds: an item has more than one clause; two items are below each other
unfoldable pub relation_fault : ℕ → List (List Items) → Option RelationFault
relation_fault n clauses =
    option_or (option_map TwoClauses (two_clauses n clauses))
    (option_map (λ p. Quasi p.0 p.1) (quasi_pair n (first_clauses clauses)))
