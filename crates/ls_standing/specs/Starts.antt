-- Starts as contracts see them.
--     start_of start      the start of the definitions
--     IsStartOn n start      the start is on the n items
use Rattle.std.specs.Prelude.{ℕ, ◌≡◌, ◌≤◌, ⊤}
use Rattle.ls_set.specs.{most_items}
use Rattle.ls_theory.specs.Starts as theory
use Rattle.ls_clauses.specs.Starts.{IsStart}
use Rattle.ls_standing.specs.declared.start.Start.{Start}
use Rattle.ls_standing.specs.declared.start.Start.TheVariants.{Free, Clauses, Sets}

-- the start of the definitions
abbrev pub start_of : Start → theory.Start
start_of Free = theory.Free
start_of (Clauses s) = theory.Clauses s.clauses
start_of (Sets b) = theory.Sets b.sets

-- its surmise function or base has n items; any n for all sets
abbrev pub HasItems : ℕ → Start → Type 0
HasItems n Free = ⊤
HasItems n (Clauses s) = s.item_count ≡ n
HasItems n (Sets b) = b.item_count ≡ n

-- the start is on the n items, and gives a space
pub record IsStartOn (n : ℕ) (start : Start) : Type 0 where
  pub items : HasItems n start
  pub is_start : IsStart n (start_of start)

-- what a start keeps with its number of items
pub record IsOnItems (n : ℕ) (start : Start) : Type 0 where
  pub few_items : n ≤ most_items
  pub on : IsStartOn n start

-- a start with its number of items
pub record StartOn : Type 0 where
  pub item_count : ℕ
  pub start : theory.Start
