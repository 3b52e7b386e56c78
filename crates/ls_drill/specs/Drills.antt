-- Drills: a simulated expert who knows a hidden order is interviewed.
--     drilled n number      the interview on n items of the expert who knows
--         the order of the number
use Rattle.std.specs.Prelude.{ℕ, zero, suc, ◌*◌, ◌≡◌, Bool, false, None}
use Rattle.std.specs.Option.{option_map_or}
use Rattle.std.specs.List.{AllByRecursion}
use Rattle.ls_set.specs.{least, len}
use Rattle.ls_set.specs.declared.query.Query.{Query}
use Rattle.ls_theory.specs.declared.answer.Answer.{Answer}
use Rattle.ls_theory.specs.{Free, Interview, accepted, begun, next_question}
use Rattle.ls_drill.specs.HiddenOrders.{implied}

-- the expert's reply to a query ({a}, q): Yes exactly where a is before q
abbrev pub reply : ℕ → ℕ → Query → Bool
reply n number r = option_map_or (λ a. implied n number a r.q) (least r.a) false

-- after one turn: the first open query is asked and answered; nothing changes where none is open
unfoldable pub after_turn : ℕ → Interview → Interview
after_turn number i =
    option_map_or (λ r. accepted i r (reply i.count number r)) (next_question i None) i

-- after as many turns
unfoldable pub after_turns : ℕ → ℕ → Interview → Interview
after_turns number zero i = i
after_turns number (suc turns) i = after_turns number turns (after_turn number i)

-- after the turns that are enough for each query of single items
unfoldable pub drilled : ℕ → ℕ → Interview
drilled n number = after_turns number (n * n) (begun n Free)

-- An interview on n items that begins with all sets and asks of single items:
-- each query that was answered has one.
pub record IsDrill (n : ℕ) (i : Interview) : Type 0 where
  pub items : i.count ≡ n
  pub start : i.start ≡ Free
  pub block : i.block ≡ 1
  pub single : AllByRecursion (λ (a : Answer). len a.query.a ≡ 1) i.answers
