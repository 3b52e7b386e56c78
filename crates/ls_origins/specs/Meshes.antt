-- The mesh of two families on parts of the items: the sets that look to each part like one of its
-- members.
--     mesh n x f y g      of a family f on the part x with a family g on the part y
--     mesh_of n left right      of two parts that are given by sets
--     mesh_fault n left right      why these have none, if they have none
--     agree n left right      their families have the same projection on the items of both
use Rattle.std.specs.Prelude.{ℕ, Bool, ◌&&◌, nat_lt, if◌then◌else◌, List, [], ◌++◌, map, filter}
use Rattle.std.specs.Prelude.{length, Option, None, Some, option_map}
use Rattle.std.specs.List.{list_all}
use Rattle.std.specs.Option.{option_or}
use Rattle.ls_set.specs.ItemSet.{Items, full, union, meet, minus, single, items, least, is_among}
use Rattle.ls_set.specs.ItemSet.{subsets}
use Rattle.ls_theory.specs.Families.{unions}
use Rattle.ls_theory.specs.Starts.{Sets}
use Rattle.ls_theory.specs.Compatible.{compat}
use Rattle.ls_theory.specs.Bases.{base, most_base_sets}
use Rattle.ls_theory.specs.Projections.{projection}
use Rattle.ls_origins.specs.declared.mesh_fault.MeshFault.{MeshFault}
use Rattle.ls_origins.specs.declared.mesh_fault.MeshFault.TheVariants.{NotCovered, Wide}

-- the meet with each part is a member of the part's family
abbrev pub is_meshed : Items → List Items → Items → List Items → Items → Bool
is_meshed x f y g k = is_among f (meet x k) && is_among g (meet y k)

-- the sets of the n items whose meet with x is in f, and whose meet with y is in g
unfoldable pub mesh : ℕ → Items → List Items → Items → List Items → List Items
mesh n x f y g = filter (is_meshed x f y g) (subsets n)

-- ---- parts that are given by sets

-- the items in some set
abbrev pub part_items : List Items → Items
part_items sets = unions sets

-- the unions of the sets
abbrev pub part_family : ℕ → List Items → List Items
part_family n sets = compat n (Sets sets) []

abbrev pub mesh_of : ℕ → List Items → List Items → List Items
mesh_of n left right =
    mesh n (part_items left) (part_family n left) (part_items right) (part_family n right)

-- the least item that is in neither part
abbrev pub uncovered : ℕ → List Items → List Items → Option ℕ
uncovered n left right = least (minus (full n) (union (part_items left) (part_items right)))

-- the sets of a side, whose items are x, and each single item outside it
abbrev pub side : ℕ → Items → List Items → List Items
side n x sets = sets ++ map single (items (minus (full n) x))

-- the base of the unions of these: the part's states, with the items outside it free
abbrev pub side_base : ℕ → List Items → List Items
side_base n sets = base (part_family n (side n (part_items sets) sets))

-- that base has too many sets
abbrev pub wide_side : ℕ → ℕ → List Items → Option MeshFault
wide_side n number sets =
    let count = length (side_base n sets) in
    if nat_lt most_base_sets count then Some (Wide number count) else None

-- the first of these that holds: an item is in neither part; the first side is too wide; the second
-- is
unfoldable pub mesh_fault : ℕ → List Items → List Items → Option MeshFault
mesh_fault n left right =
    option_or (option_map NotCovered (uncovered n left right))
    (option_or (wide_side n 1 left) (wide_side n 2 right))

-- the lists have the same sets
abbrev pub has_same_sets : List Items → List Items → Bool
has_same_sets f g = list_all (is_among g) f && list_all (is_among f) g

unfoldable pub agree : ℕ → List Items → List Items → Bool
agree n left right =
    let shared = meet (part_items left) (part_items right) in
    has_same_sets (projection n shared (part_family n left))
    (projection n shared (part_family n right))
