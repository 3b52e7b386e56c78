-- Items that come together in the sets of a list.
use Rattle.std.specs.Prelude.{ℕ, ◌<◌, List, length, slice_index_or}
use Rattle.ls_set.specs.{Items, empty}
use Rattle.ls_clauses.specs.Unions.{ComesWith}

-- at the place of each item stand items that come with it in each set of g
abbrev pub AreTogether : List Items → List Items → Type 0
AreTogether g ms = (i : ℕ) → i < length ms → ComesWith g i (slice_index_or ms i empty)
