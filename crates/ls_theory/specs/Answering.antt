-- Answering: which answers an interview takes, and why it does not take the others.
--     refusal i r is_yes      why the interview does not take the answer to r, if it does not
use Rattle.std.specs.Prelude.{ℕ, ◌≡◌, Bool, true, false, ◌&&◌, ◌||◌, ◌==◌, nat_lt, nat_le}
use Rattle.std.specs.Prelude.{if◌then◌else◌, length, find, Option, Some, None, ⊤}
use Rattle.std.specs.Option.{option_map}
use Rattle.ls_set.specs.{is_good, is_same}
use Rattle.ls_set.specs.declared.query.Query.{Query}
use Rattle.ls_theory.specs.declared.answer.Answer.{Answer}
use Rattle.ls_theory.specs.declared.known.Known.{Known}
use Rattle.ls_theory.specs.declared.answer_fault.AnswerFault.{AnswerFault}
use Rattle.ls_theory.specs.declared.answer_fault.AnswerFault.TheVariants.{BadQuery, Repeat}
use Rattle.ls_theory.specs.declared.answer_fault.AnswerFault.TheVariants.{ForcedYes, ForcedNo}
use Rattle.ls_theory.specs.declared.answer_fault.AnswerFault.TheVariants.{Full, Memory}
use Rattle.ls_theory.specs.Interviews.{Interview}
use Rattle.ls_theory.specs.Forced.{known}

-- the most answers that stand
abbrev pub most_answers : ℕ
most_answers = 8192

-- the greatest number of an answer
abbrev pub most_number : ℕ
most_number = 999999999

abbrev pub is_same_query : Query → Query → Bool
is_same_query r s = is_same r.a s.a && r.q == s.q

-- the number of the standing answer to the query
abbrev pub standing_number : Interview → Query → Option ℕ
standing_number i r = option_map (λ a. a.number) (find (λ a. is_same_query a.query r) i.answers)

-- the standing answer with the number
abbrev pub answer_with : Interview → ℕ → Option Answer
answer_with i number = find (λ a. a.number == number) i.answers

-- as many answers stand as can, or the last number was given
abbrev pub is_full : Interview → Bool
is_full i = nat_le most_answers (length i.answers) || nat_lt most_number i.next

-- what is known rules the answer out
abbrev pub opposed : Known → Bool → Option AnswerFault
opposed Known.Yes true = None
opposed Known.Yes false = Some ForcedYes
opposed (Known.No by) true = Some (ForcedNo by)
opposed (Known.No by) false = None
opposed Known.Unsettled is_yes = None

-- the first of two faults
abbrev pub first_fault : Option AnswerFault → Option AnswerFault → Option AnswerFault
first_fault (Some fault) other = Some fault
first_fault None other = other

-- The first of these that holds: the query is not good; it was answered;
-- the answers force the other reply; there is no room.
abbrev pub refusal : Interview → Query → Bool → Option AnswerFault
refusal i r is_yes =
    first_fault (if is_good i.count r then None else Some BadQuery)
    (first_fault (option_map Repeat (standing_number i r))
    (first_fault (opposed (known i r) is_yes)
    (if is_full i then Some Full else None)))

-- the fault is the one that is found, unless memory ran out
abbrev pub IsAnswerFault : Option AnswerFault → AnswerFault → Type 0
IsAnswerFault found (Memory e) = ⊤
IsAnswerFault found fault = found ≡ Some fault
