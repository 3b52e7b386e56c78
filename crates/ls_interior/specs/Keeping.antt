-- Interiors that are of use only where they keep certain items.
use Rattle.std.specs.Prelude.{if◌then◌else◌, List, Option, Some, None}
use Rattle.ls_set.specs.{Items, is_within}
use Rattle.ls_theory.specs.{interior}

-- the interior of s where it has all items of keep, or nothing
abbrev pub interior_keeping : List Items → Items → Items → Option Items
interior_keeping f s keep =
    let inside = interior f s in
    if is_within keep inside then Some inside else None
