-- What an inquiry keeps true of its parts.
use Rattle.std.specs.Prelude.{◌≡◌, ℕ, Bool, ◌<◌, ◌≤◌, true, false, List, find, Option, None, Some}
use Rattle.ls_set.specs.{most_items}
use Rattle.ls_set.specs.declared.query.Query.{Query}
use Rattle.ls_theory.specs.declared.answer.Answer.{Answer}
use Rattle.ls_theory.specs.{BlockRange, Interview, compatible_sets, is_open, next_question, nos}
use Rattle.ls_theory.specs.{queries, query_before, spaces_of, yes_queries}
use Rattle.ls_lists.specs.Lists.{IsIn}
use Rattle.ls_infer.specs.Tables.{TableRoom, IsKeptFor}
use Rattle.ls_standing.specs.Starts.{StartOn}
use Rattle.ls_standing.specs.Standing.{interview_on, IsStanding}

-- the interview that the parts make
abbrev pub interview_of : StartOn → ℕ → List Answer → ℕ → Interview
interview_of s = interview_on s.item_count s.start

-- the blocks of an interview
abbrev pub blocks_of : Interview → BlockRange
blocks_of i = record { item_count = i.count; largest = i.block }

-- the sets of one of n items
abbrev pub single_items : ℕ → BlockRange
single_items n = record { item_count = n; largest = 1 }

-- its table is kept, of the sets of one item
abbrev pub IsTabled : Interview → TableRoom → Type 0
IsTabled i = IsKeptFor (single_items i.count) (compatible_sets i) (nos i.answers)

-- The answers stand, the rules are the Yes answers, and the table is kept for what stands.
pub record IsHeld (i : Interview) (rules : List Query) (table : TableRoom) : Type 0 where
  pub some_items : 0 < i.count
  pub few_items : i.count ≤ most_items
  pub ruled : rules ≡ yes_queries i.answers
  pub tabled : IsTabled i table
  pub standing : IsStanding i

-- No query of the blocks before the given one of them is open; none at all, where none is given.
abbrev pub NoneBefore : Interview → Option Query → Type 0
NoneBefore i None = (r : Query)
    → IsIn r (queries i.count i.block)
    → is_open (spaces_of i) r ≡ false
NoneBefore i (Some s) =
    IsIn s (queries i.count i.block)
    × ((r : Query)
    → IsIn r (queries i.count i.block)
    → query_before r s ≡ true
    → is_open (spaces_of i) r ≡ false)

-- where the question after a query, or the first, is looked for:
-- from the next query of the blocks on, or from one before which none is open
abbrev pub PlaceFor : Interview → Option Query → Option Query → Type 0
PlaceFor i None from = NoneBefore i from
PlaceFor i (Some r) from = from ≡ find (query_before r) (queries i.count i.block)

-- With that the blocks, which have some sizes; the query from which an open one is looked for;
-- and whether that is the first open one.
pub record IsInquiry (i : Interview) (blocks : BlockRange) (rules : List Query)
    (table : TableRoom) (from : Option Query) (is_found : Bool) : Type 0 where
  pub held : IsHeld i rules table
  pub asked : blocks ≡ blocks_of i
  pub some_sizes : 0 < i.block
  pub none_before : NoneBefore i from
  pub found : is_found ≡ true → from ≡ next_question i None
