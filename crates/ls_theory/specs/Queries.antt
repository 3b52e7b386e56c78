-- Queries (A, q): does failing every item of A entail failing q? Which sets break one,
-- and the blocks in which they are asked. (The questions and blocks of the QUERY routine.
-- A query is good by `is_good` of ls_set.)
use Rattle.std.specs.Prelude.{ℕ, Bool, not, ◌&&◌, ◌||◌, ◌==◌, nat_lt, List, map, filter}
use Rattle.std.specs.List.{list_any, list_all, flat_map}
use Rattle.ls_set.specs.{Items, empty, has, is_good, is_same, items, len, meet}
use Rattle.ls_set.specs.{numbers_from, subsets}
use Rattle.ls_set.specs.declared.query.Query.{Query}
use Rattle.ls_theory.specs.Words.{is_lex_before}

-- the set breaks the query: it has no item of A, and has q
abbrev pub breaks : Items → Query → Bool
breaks k r = is_same (meet k r.a) empty && has k r.q

-- the set breaks none of the queries
abbrev pub breaks_none : List Query → Items → Bool
breaks_none rs k = list_all (λ r. not (breaks k r)) rs

-- some set of the list breaks the query
abbrev pub some_breaks : List Items → Query → Bool
some_breaks f r = list_any (λ k. breaks k r) f

-- the order of the sets A: by size, then by their ascending lists, lexicographically
unfoldable pub block_before : Items → Items → Bool
block_before a b = nat_lt (len a) (len b) || (len a == len b && is_lex_before (items a) (items b))

-- the order of queries: by A, then by q
unfoldable pub query_before : Query → Query → Bool
query_before r s = block_before r.a s.a || (is_same r.a s.a && nat_lt r.q s.q)

-- the blocks up to k: the sets A of size 1 to k, in that order; those of one size stand
-- in the order of sets
unfoldable pub blocks : ℕ → ℕ → List Items
blocks n k = flat_map (λ size. filter (λ a. len a == size) (subsets n)) (numbers_from 1 k)

-- the good queries of the blocks, in the order of queries
unfoldable pub queries : ℕ → ℕ → List Query
queries n k =
    filter (is_good n)
    (flat_map (λ a. map (λ q. record { a = a; q = q }) (numbers_from 0 n)) (blocks n k))
