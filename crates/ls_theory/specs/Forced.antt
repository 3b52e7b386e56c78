-- What the standing answers force, and the next question. (Inference in the QUERY routine.)
use Rattle.std.specs.Prelude.{ℕ, Bool, not, ◌&&◌, if◌then◌else◌, List, filter, find}
use Rattle.std.specs.Prelude.{Option, option_map, unwrap_or}
use Rattle.std.specs.List.{list_any, list_all}
use Rattle.ls_set.specs.{Items}
use Rattle.ls_set.specs.declared.query.Query.{Query}
use Rattle.ls_theory.specs.declared.no.No.{No}
use Rattle.ls_theory.specs.declared.known.Known.{Known}
use Rattle.ls_theory.specs.Queries.{breaks, some_breaks, query_before, queries}
use Rattle.ls_theory.specs.Interviews.{Interview, nos}
use Rattle.ls_theory.specs.Compatible.{compatible_sets}
use Rattle.ls_theory.specs.Fitting.{spaces_of}
use Rattle.ls_theory.specs.Pages.{comes_after}

-- forced Yes: no fitting space has a member that breaks the query
abbrev pub is_forced_yes : List (List Items) → Query → Bool
is_forced_yes spaces r = list_all (λ f. not (some_breaks f r)) spaces

-- forced No: every fitting space has one
abbrev pub is_forced_no : List (List Items) → Query → Bool
is_forced_no spaces r = list_all (λ f. some_breaks f r) spaces

-- open: neither
abbrev pub is_open : List (List Items) → Query → Bool
is_open spaces r = not (is_forced_yes spaces r) && not (is_forced_no spaces r)

-- The least number of a standing No that no compatible set breaks once the sets that break r
-- are left out. The answers stand in order of number, so it is the first.
abbrev pub by : List Items → List No → Query → Option ℕ
by compatible nos r =
    let left = filter (λ k. not (breaks k r)) compatible in
    option_map (λ a. a.number) (find (λ a. not (some_breaks left a.query)) nos)

-- what the interview's standing answers tell of the query
unfoldable pub known : Interview → Query → Known
known i r =
    let spaces = spaces_of i in
    if is_forced_yes spaces r then Known.Yes
    else (if is_forced_no spaces r
    then Known.No (unwrap_or (by (compatible_sets i) (nos i.answers) r) 0)
    else Known.Unsettled)

-- the first open query of the blocks after the given one, or from the start
unfoldable pub next_question : Interview → Option Query → Option Query
next_question i last =
    find (is_open (spaces_of i)) (filter (comes_after query_before last) (queries i.count i.block))

-- no open query is in the blocks
unfoldable pub is_settled : Interview → Bool
is_settled i = not (list_any (is_open (spaces_of i)) (queries i.count i.block))
