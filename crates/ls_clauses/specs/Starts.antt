-- Starts that an interview can have.
--     IsCover n sets      sets of the n items, each of which is in some set
--     IsStart n start      the start is on the n items: all sets, a surmise function, or such sets
use Rattle.std.specs.Prelude.{ℕ, ◌<◌, ◌≡◌, true, List, ⊤}
use Rattle.ls_set.specs.{Items, has}
use Rattle.ls_theory.specs.{unions}
use Rattle.ls_theory.specs.Starts.{Start, Free, Clauses, Sets}
use Rattle.ls_laws.specs.Spans.{AreOn}
use Rattle.ls_clauses.specs.Surmise.{IsSurmise}

pub record IsCover (n : ℕ) (sets : List Items) : Type 0 where
  pub small : AreOn n sets
  pub each_item : (q : ℕ) → q < n → has (unions sets) q ≡ true

abbrev pub IsStart : ℕ → Start → Type 0
IsStart n Free = ⊤
IsStart n (Clauses clauses) = IsSurmise n clauses
IsStart n (Sets sets) = IsCover n sets
