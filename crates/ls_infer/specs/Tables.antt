-- Tables of closures: what is kept of a family of sets, so that queries are answered
-- without forming it.
--     table_of b f nos      the table of the family f, for blocks b and the standing
--         answers that are No
--     AreStates f kept      the sets that are kept for each item are members of the family f
--     IsKeptFor b f nos t      such a table is kept, with members of the family for each item
--     forces r s      the No of which s is kept forces the query r No
--     closed_of t a      the closure that is kept of a block set
--     told n f nos r      what the family f and the standing Nos tell of the query r
use Rattle.std.specs.Prelude.{ℕ, Bool, true, not, ◌&&◌, if◌then◌else◌, ◌≤◌, ◌≡◌}
use Rattle.std.specs.Prelude.{List, map, length, filter, slice_get, unwrap_or}
use Rattle.std.specs.List.{list_all, list_any, position}
use Rattle.std.specs.Option.{option_map_or}
use Rattle.ls_set.specs.{Items, empty, full, has, is_among, is_same, is_within, most_items}
use Rattle.ls_set.specs.{numbers_from, set_of, with}
use Rattle.ls_set.specs.declared.query.Query.{Query}
use Rattle.ls_theory.specs.declared.no.No.{No}
use Rattle.ls_theory.specs.declared.known.Known.{Known}
use Rattle.ls_theory.specs.{BlockRange, closure, first_least, most_sets}
use Rattle.ls_laws.specs.Forced.{is_forced_by_closures}
use Rattle.ls_query.specs.Blocks.{block_sets}
use Rattle.ls_infer.specs.declared.standing_no.StandingNo.{StandingNo}
use Rattle.ls_infer.specs.Changes.{is_kept}

-- the items r below n such that q is in the closure of the closed set with r
abbrev pub enough_for : ℕ → List Items → Items → ℕ → Items
enough_for n f closed q =
    set_of (filter (λ r. has (closure (full n) f (with closed r)) q) (numbers_from 0 n))

-- what is kept of a standing No (B, p): the answer, the closure of B, the items that are enough
-- with it for p, and whether those are a state
abbrev pub standing : ℕ → List Items → No → StandingNo
standing n f a =
    let closed = closure (full n) f a.query.a in
    let enough = enough_for n f closed a.query.q in
    record { no = a; closed = closed; enough = enough; is_state = is_among f enough }

-- the blocks, the closure of each of their sets in order, and the standing answers
-- that are No in order
pub record TableState : Type 0 where
  pub blocks : BlockRange
  pub closures : List Items
  pub standing : List StandingNo

-- a table, with the sets that are kept for each item, and the number of standing Nos
-- for which there is room
pub record TableRoom : Type 0 where
  pub table : TableState
  pub witnesses : List (List Items)
  pub spare : ℕ

-- the sets that are kept for each item are members of the family
abbrev pub AreStates : List Items → List (List Items) → Type 0
AreStates f kept = list_all (list_all (is_among f)) kept ≡ true

-- the table of a family
abbrev pub table_of : BlockRange → List Items → List No → TableState
table_of b f nos = record {
  blocks = b;
  closures = map (closure (full b.item_count) f) (block_sets b);
  standing = map (standing b.item_count f) nos;
}

-- a table that is kept for a family: it is the family's, and the sets that are kept
-- for each item are members
pub record IsKeptFor (b : BlockRange) (f : List Items) (nos : List No)
    (t : TableRoom) : Type 0 where
  pub table : t.table ≡ table_of b f nos
  pub states : AreStates f t.witnesses

-- the No forces the query (A, q): A is within the closure of its set, and q is enough with that
abbrev pub forces : Query → StandingNo → Bool
forces r s = is_within r.a s.closed && has s.enough r.q

-- the closure that is kept of a block set
abbrev pub closed_of : TableState → Items → Items
closed_of t a =
    option_map_or (λ i. unwrap_or (slice_get t.closures i) empty)
    (position (is_same a) (block_sets t.blocks))
    empty

-- a block query is open by the table: no closure decides it, and no standing No
abbrev pub is_open_in : TableState → Query → Bool
is_open_in t r = not (has (closed_of t r.a) r.q) && not (list_any (forces r) t.standing)

-- What is told of the query (A, q): Yes where q is in the closure of A;
-- or else No, by the least number of the Nos that force it, if any does.
abbrev pub told : ℕ → List Items → List No → Query → Known
told n f nos r =
    let forcing = filter (λ a. is_forced_by_closures n f r a.query) nos in
    if has (closure (full n) f r.a) r.q then Known.Yes
    else option_map_or (λ a. Known.No a.number)
    (first_least (λ a. a.number) forcing)
    Known.Unsettled

-- the number of items; for each block set, of which there are not too many,
-- a closure of items alone; and standing Nos
pub record IsTable (n : ℕ) (t : TableState) : Type 0 where
  pub items : n ≡ t.blocks.item_count
  pub few : n ≤ most_items
  pub each : length t.closures ≡ length (block_sets t.blocks)
  pub few_sets : length t.closures ≤ most_sets
  pub within : list_all (λ c. is_within c (full n)) t.closures ≡ true
  pub kept : list_all (is_kept n) t.standing ≡ true
