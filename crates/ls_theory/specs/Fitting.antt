-- The knowledge spaces that fit the answers.
use Rattle.std.specs.Prelude.{ℕ, Bool, ◌&&◌, List, filter}
use Rattle.std.specs.List.{list_all}
use Rattle.ls_set.specs.{Items, full}
use Rattle.ls_set.specs.declared.query.Query.{Query}
use Rattle.ls_theory.specs.Queries.{some_breaks}
use Rattle.ls_theory.specs.Starts.{Start}
use Rattle.ls_theory.specs.Families.{families, is_space}
use Rattle.ls_theory.specs.Interviews.{Interview, yes_queries, no_queries}
use Rattle.ls_theory.specs.Compatible.{is_compatible}

-- a space whose members are compatible, and of which some member breaks each query
-- that was answered No
abbrev pub fits : ℕ → Start → List Query → List Query → List Items → Bool
fits n start yeses nos f =
    is_space (full n) f
    && list_all (is_compatible start yeses) f
    && list_all (some_breaks f) nos

-- all spaces that fit
unfoldable pub fitting_spaces : ℕ → Start → List Query → List Query → List (List Items)
fitting_spaces n start yeses nos = filter (fits n start yeses nos) (families n)

-- those of an interview
abbrev pub spaces_of : Interview → List (List Items)
spaces_of i = fitting_spaces i.count i.start (yes_queries i.answers) (no_queries i.answers)
