-- What the standing answers force, by closures in the compatible sets.
use Rattle.std.specs.Prelude.{ℕ, ◌≡◌, ◌≢◌, Bool, true, not, ◌&&◌, if◌then◌else◌, nat_lt}
use Rattle.std.specs.Prelude.{List, [], map, find}
use Rattle.std.specs.List.{list_all}
use Rattle.std.specs.List.Sorted.{IsStrictlyIncreasing}
use Rattle.std.specs.Option.{option_map_or}
use Rattle.ls_set.specs.{IsInOrder, Items, full, has, is_good, is_within, with}
use Rattle.ls_set.specs.declared.query.Query.{Query}
use Rattle.ls_theory.specs.declared.known.Known.{Known}
use Rattle.ls_theory.specs.{Interview, closure, compatible_sets, fits, no_queries, nos, some_breaks}
use Rattle.ls_theory.specs.{spaces_of, yes_queries}
use Rattle.ls_laws.specs.Spans.{AreOn, left_by}

-- some space fits the answers
abbrev pub SomeFits : Interview → Type 0
SomeFits i = spaces_of i ≢ []

-- some space fits, and each query that was answered No is good
pub record IsSound (i : Interview) : Type 0 where
  pub some_fits : SomeFits i
  pub are_good : list_all (is_good i.count) (no_queries i.answers) ≡ true

-- the standing answers in order of number, each number below the next
pub record IsNumbered (i : Interview) : Type 0 where
  pub in_order : IsStrictlyIncreasing (map (λ a. a.number) i.answers)
  pub below_next : list_all (λ a. nat_lt a.number i.next) i.answers ≡ true

-- a family on the items that fits the answers
pub record FitsAnswers (i : Interview) (f : List Items) : Type 0 where
  pub in_order : IsInOrder f
  pub is_on : AreOn i.count f
  pub passes : fits i.count i.start (yes_queries i.answers) (no_queries i.answers) f ≡ true

-- a query r is forced No by a No s: no set that is left without those that break r breaks s
abbrev pub is_forced_by : List Items → Query → Query → Bool
is_forced_by f r s = not (some_breaks (left_by r f) s)

-- the same by closures, for a query (A, q) and a No (B, p): A is within the closure of B,
-- and p in the closure of that with q
abbrev pub is_forced_by_closures : ℕ → List Items → Query → Query → Bool
is_forced_by_closures n f r s =
    let closed = closure (full n) f s.a in
    is_within r.a closed && has (closure (full n) f (with closed r.q)) s.q

-- what is known of a query, by closures
abbrev pub known_by_closures : Interview → Query → Known
known_by_closures i r =
    let f = compatible_sets i in
    if has (closure (full i.count) f r.a) r.q then Known.Yes
    else option_map_or (λ a. Known.No a.number)
    (find (λ a. is_forced_by_closures i.count f r a.query) (nos i.answers))
    Known.Unsettled
