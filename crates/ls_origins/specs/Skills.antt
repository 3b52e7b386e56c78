-- Skill maps: for each skill in turn, the items to which it is attached.
--     any n m, all n m      the states of the n items by the disjunctive and by the conjunctive
--         reading
use Rattle.std.specs.Prelude.{ℕ, zero, suc, Bool, not, ◌||◌, if◌then◌else◌, List, filter, length}
use Rattle.std.specs.Prelude.{slice_index_or}
use Rattle.std.specs.List.{list_any, list_all}
use Rattle.ls_set.specs.ItemSet.{Items, has, empty, full, with, minus, is_same, is_among, items}
use Rattle.ls_set.specs.ItemSet.{numbers_from, subsets}

-- the numbers below n that pass
abbrev pub items_that : ℕ → (ℕ → Bool) → Items
items_that zero p = empty
items_that (suc n) p = let rest = items_that n p in if p n then with rest n else rest

-- the items of the skill at a place
abbrev pub skill : List Items → ℕ → Items
skill m p = slice_index_or m p empty

-- the item has some skill of the set of places t
abbrev pub has_some_skill : List Items → Items → ℕ → Bool
has_some_skill m t q = list_any (λ p. has (skill m p) q) (items t)

-- every skill of the item is in t
abbrev pub has_all_skills : List Items → Items → ℕ → Bool
has_all_skills m t q =
    list_all (λ p. not (has (skill m p) q) || has t p) (numbers_from 0 (length m))

-- the disjunctive state of t: the items with some skill in t
abbrev pub any_state : ℕ → List Items → Items → Items
any_state n m t = items_that n (has_some_skill m t)

-- the conjunctive state of t: the items all of whose skills are in t
abbrev pub all_state : ℕ → List Items → Items → Items
all_state n m t = items_that n (has_all_skills m t)

-- the disjunctive states of all sets of skills, in the order
unfoldable pub any : ℕ → List Items → List Items
any n m = filter (λ s. list_any (λ t. is_same s (any_state n m t)) (subsets (length m))) (subsets n)

-- the conjunctive ones
unfoldable pub all : ℕ → List Items → List Items
all n m = filter (λ s. list_any (λ t. is_same s (all_state n m t)) (subsets (length m))) (subsets n)

-- the sets whose complement is a member, in the order
unfoldable pub duals : ℕ → List Items → List Items
duals n f = filter (λ s. is_among f (minus (full n) s)) (subsets n)

-- the most skills of a map
abbrev pub most_skills : ℕ
most_skills = 4096
