-- A start that is read is what the definitions read.
use Rattle.std.specs.Prelude.{◌≡◌, ⊤, ℕ, List, [], length, Result, Ok, Err}
use Rattle.ls_theory.specs.{base, compat}
use Rattle.ls_theory.specs.Starts as theory
use Rattle.ls_cutting.specs.{Text}
use Rattle.ls_standing.specs.Starts.{start_of, IsStartOn}
use Rattle.ls_standing.specs.declared.start.Start.{Start}
use Rattle.ls_meaning.specs.Rows.{start_number}
use Rattle.ls_meaning.specs.declared.request.StartFile.{StartFile}
use Rattle.ls_meaning.specs.declared.response.Refusal.{Refusal}

-- a start on the named items, or a refusal
abbrev pub IsStartRead : List Text → Result theory.Start Refusal → Result Start Refusal → Type 0
IsStartRead names reading (Ok start) =
    (reading ≡ Ok (start_of start)) × IsStartOn (length names) start
IsStartRead names reading (Err refusal) = reading ≡ Err refusal

-- the number that is told of a start that was read is that of the sets of its base
abbrev pub HasNumber : StartFile → ℕ → Result Start Refusal → Type 0
HasNumber kind n (Ok start) =
    start_number kind n (start_of start) ≡ length (base (compat n (start_of start) []))
HasNumber kind n (Err refusal) = ⊤
