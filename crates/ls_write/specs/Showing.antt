-- What is said of an interview: what it takes to say it, and how many interiors that is.
use Rattle.std.specs.Prelude.{ℕ, ◌≡◌, ◌+◌, ◌*◌, Bool, true, false, List, length, ⊤}
use Rattle.std.specs.declared.option.Option.{Option}
use Rattle.std.specs.Option.{ForSome}
use Rattle.ls_set.specs.{IsWithin, Items, full}
use Rattle.ls_theory.specs.{Interview, compatible_sets}
use Rattle.ls_theory.specs.{is_learning_space, is_order}
use Rattle.ls_cutting.specs.{Text}
use Rattle.ls_meaning.specs.{Session}
use Rattle.ls_meaning.specs.StateLists.{StateList}
use Rattle.ls_meaning.specs.declared.response.Response.{Response}
use Rattle.ls_meaning.specs.declared.response.Response.TheVariants as response
use Rattle.ls_meaning.specs.declared.response.Shown.{Shown}
use Rattle.ls_meaning.specs.declared.response.Shown.TheVariants as shown

-- a session with these names and this interview, whatever its settings and its pupils
abbrev pub session_with : Session → List Text → Interview → Session
session_with s names i = record s { names = names; interview = i }

-- listed states are among n items, and a page of them begins after a set of these
abbrev pub IsPageOn : ℕ → StateList → Option Items → Type 0
IsPageOn n l after = (l.item_count ≡ n) × ForSome after (λ k. IsWithin k (full n))

-- of an interview on n items: a page begins after a set of these; a surmise function has clauses
-- for each; learning paths are those of a learning space, a page of which begins after an order of
-- the items; and what else is listed is among these items
abbrev pub CanShow : ℕ → Interview → Shown → Type 0
CanShow n i (shown.States count after) = ForSome after (λ k. IsWithin k (full n))
CanShow n i (shown.Projected part count after) = ForSome after (λ k. IsWithin k (full n))
CanShow n i (shown.Surmise clauses) = length clauses ≡ n
CanShow n i (shown.Paths count after) =
    (is_learning_space (full n) (compatible_sets i) ≡ true)
    × ForSome after (λ order. is_order n order ≡ true)
CanShow n i (shown.Unions l count after) = IsPageOn n l after
CanShow n i (shown.Duals l count after) = IsPageOn n l after
CanShow n i (shown.Mesh l count after) = IsPageOn n l after
CanShow n i what = ⊤

-- where the response shows something
abbrev pub CanSay : ℕ → Interview → Response → Type 0
CanSay n i (response.Shown what) = CanShow n i what
CanSay n i r = ⊤

abbrev pub is_shown : Response → Bool
is_shown (response.Shown what) = true
is_shown r = false

-- how many interiors what is shown takes at most, on n items
abbrev pub shown_steps : Shown → ℕ → ℕ
shown_steps (shown.States count after) n = (count + 1) * (n + 1)
shown_steps (shown.Projected part count after) n = (count + 1) * (n + 1)
shown_steps (shown.Unions l count after) n = (count + 1) * (n + 1)
shown_steps (shown.Duals l count after) n = (count + 1) * (2 * n)
shown_steps (shown.Mesh l count after) n = (count + 1) * (n + 1)
shown_steps what n = 0

abbrev pub response_steps : Response → ℕ → ℕ
response_steps (response.Shown what) n = shown_steps what n
response_steps r n = 0
