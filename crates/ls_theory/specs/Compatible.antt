-- Compatible sets: the knowledge states that the Yes answers leave.
use Rattle.std.specs.Prelude.{ℕ, Bool, ◌&&◌, List, filter}
use Rattle.ls_set.specs.{Items, subsets}
use Rattle.ls_set.specs.declared.query.Query.{Query}
use Rattle.ls_theory.specs.Queries.{breaks_none}
use Rattle.ls_theory.specs.Starts.{Start, meets}
use Rattle.ls_theory.specs.Interviews.{Interview, yes_queries}

-- the set meets the start and breaks no query that was answered Yes
abbrev pub is_compatible : Start → List Query → Items → Bool
is_compatible start yeses k = meets start k && breaks_none yeses k

-- the compatible sets of n items, in the order
unfoldable pub compat : ℕ → Start → List Query → List Items
compat n start yeses = filter (is_compatible start yeses) (subsets n)

-- those of an interview
abbrev pub compatible_sets : Interview → List Items
compatible_sets i = compat i.count i.start (yes_queries i.answers)
