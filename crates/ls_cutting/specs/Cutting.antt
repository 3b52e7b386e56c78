-- How a stream is cut into its lines, piece by piece.
use Rattle.std.specs.Prelude.{ℕ, ◌≡◌, ◌-◌, ◌<◌, ◌≤◌, if◌then◌else◌, Option, Some, None}
use Rattle.std.specs.Prelude.{List, [], ◌∷◌, ◌++◌, length, take, drop}
use Rattle.ls_cutting.specs.Lines.{lines, is_long}
use Rattle.ls_cutting.specs.declared.ended.Ended.{Ended}
use Rattle.ls_cutting.specs.declared.ended.Ended.TheVariants.{Whole, Long}

-- what a cutter keeps: the bytes since the last line end, how many these are, and the line that
-- ended last
pub record CutterState : Type 0 where
  pub pending : List ℕ
  pub count : ℕ
  pub line : List ℕ

-- the bytes that are kept of a line: none where it is too long to be read
abbrev pub kept : List ℕ → List ℕ
kept line = if is_long line then [] else line

-- the bytes since the last line end are these
pub record Holds (c : CutterState) (pending : List ℕ) : Type 0 where
  pub bytes : c.pending ≡ kept pending
  pub count : c.count ≡ length pending

-- how a line ends
abbrev pub ended_of : List ℕ → Ended
ended_of line = if is_long line then Long (length line) else Whole

-- the line has ended, and the next begins
pub record Ends (c : CutterState) (line : List ℕ) (ended : Ended) : Type 0 where
  pub told : ended ≡ ended_of line
  pub bytes : c.line ≡ kept line
  pub begun : Holds c []

-- Of a piece after the pending bytes, n bytes were taken: all of them, where it has no line end,
-- and otherwise those up to and with its first line end.
abbrev pub IsTaken : CutterState → List ℕ → List ℕ → ℕ → Option Ended → Type 0
IsTaken c pending piece n None =
    (n ≡ length piece) × (lines piece ≡ piece ∷ []) × Holds c (pending ++ piece)
IsTaken c pending piece n (Some ended) =
    (0 < n) × (n ≤ length piece) × (lines piece ≡ take (n - 1) piece ∷ lines (drop n piece))
    × Ends c (pending ++ take (n - 1) piece) ended

-- lines with bytes ahead of the first
abbrev pub ahead : List ℕ → List (List ℕ) → List (List ℕ)
ahead front [] = front ∷ []
ahead front (line ∷ rest) = (front ++ line) ∷ rest
