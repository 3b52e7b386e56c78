-- Interviews: what an expert was asked and answered.
use Rattle.std.specs.Prelude.{ℕ, ◌+◌, Bool, not, ◌==◌, List, [], ◌∷◌, ◌++◌, map, filter}
use Rattle.ls_set.specs.declared.query.Query.{Query}
use Rattle.ls_theory.specs.declared.answer.Answer.{Answer}
use Rattle.ls_theory.specs.declared.no.No.{No}
use Rattle.ls_theory.specs.Starts.{Start}

-- `count` items; the start; blocks of sets of up to `block` items;
-- the standing answers in order of number; the next number
pub record Interview : Type 0 where
  pub count : ℕ
  pub start : Start
  pub block : ℕ
  pub answers : List Answer
  pub next : ℕ

-- an interview begins with no answers, block 1 and number 1
abbrev pub begun : ℕ → Start → Interview
begun n start = record { count = n; start = start; block = 1; answers = []; next = 1 }

-- an accepted answer gets the next number and is put last
abbrev pub accepted : Interview → Query → Bool → Interview
accepted i r is_yes = record i {
  answers = i.answers ++ record { number = i.next; query = r; yes = is_yes } ∷ [];
  next = i.next + 1;
}

-- a retraction takes out the answer with the number, which is never given again
abbrev pub retracted : Interview → ℕ → Interview
retracted i number = record i { answers = filter (λ a. not (a.number == number)) i.answers }

-- the queries that were answered Yes
abbrev pub yes_queries : List Answer → List Query
yes_queries answers = map (λ a. a.query) (filter (λ a. a.yes) answers)

-- the answers that are No
abbrev pub nos : List Answer → List No
nos answers =
    map (λ a. record { number = a.number; query = a.query }) (filter (λ a. not a.yes) answers)

-- the queries that were answered No
abbrev pub no_queries : List Answer → List Query
no_queries answers = map (λ a. a.query) (filter (λ a. not a.yes) answers)
