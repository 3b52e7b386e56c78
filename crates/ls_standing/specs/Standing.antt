-- Answers that stand.
use Rattle.std.specs.Prelude.{◌≡◌, ℕ, ◌+◌, ◌<◌, ◌≤◌, true, ◌&&◌, nat_lt, List, map, length, count_by}
use Rattle.std.specs.List.{list_all, IsDistinct}
use Rattle.ls_set.specs.{is_good}
use Rattle.ls_theory.specs.declared.answer.Answer.{Answer}
use Rattle.ls_theory.specs.Starts as theory
use Rattle.ls_theory.specs.{Interview, is_same_query, most_answers, most_number}
use Rattle.ls_laws.specs.Forced.{IsSound, IsNumbered}

-- the interview on n items with the start, where sets up to the size k are asked,
-- the answers stand and `next` is the number of the next
abbrev pub interview_on : ℕ → theory.Start → ℕ → List Answer → ℕ → Interview
interview_on n start k answers next = record {
  count = n;
  start = start;
  block = k;
  answers = answers;
  next = next;
}

-- Answers that stand: some space fits them, they stand in order of number, below the next number,
-- their queries are good, and none is there twice; and there is room for them.
pub record IsStanding (i : Interview) : Type 0 where
  pub sound : IsSound i
  pub good : list_all (λ a. is_good i.count a.query) i.answers ≡ true
  pub distinct : IsDistinct is_same_query (map (λ a. a.query) i.answers)
  pub numbered : IsNumbered i
  pub few_answers : length i.answers ≤ most_answers
  pub some_number : 0 < i.next
  pub numbers_left : i.next ≤ most_number + 1

-- how many Yes answers have a smaller number
abbrev pub rules_before : List Answer → ℕ → ℕ
rules_before answers number = count_by (λ a. a.yes && nat_lt a.number number) answers
