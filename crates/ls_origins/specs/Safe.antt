-- The safe interview: a Yes answer is applied only where a learning space remains, and waits until
-- then.
--     safe n f answers      the family and what waits, after the answers in order of number
--     marked n f answers      the same with the answers, each with its number and whether it is
--         applied
--     safe_refusal n f answers r      why no further answer to r is accepted, if none is
use Rattle.std.specs.Prelude.{ℕ, zero, suc, Bool, true, false, not, ◌&&◌, nat_lt, nat_le}
use Rattle.std.specs.Prelude.{if◌then◌else◌, List, [], ◌∷◌, ◌++◌, map, filter, find, length}
use Rattle.std.specs.Prelude.{position, Option, None, Some, option_map}
use Rattle.std.specs.Option.{option_map_or, option_or}
use Rattle.ls_set.specs.ItemSet.{Items, full}
use Rattle.ls_set.specs.Query.{is_good}
use Rattle.ls_set.specs.declared.query.Query.{Query}
use Rattle.ls_theory.specs.Queries.{breaks}
use Rattle.ls_theory.specs.Starts.{Start}
use Rattle.ls_theory.specs.Interviews.{Interview, yes_queries}
use Rattle.ls_theory.specs.Compatible.{compat}
use Rattle.ls_theory.specs.Answering.{is_same_query, most_answers}
use Rattle.ls_theory.specs.Bases.{base, most_base_sets}
use Rattle.ls_theory.specs.Verdict.{is_learning_space}
use Rattle.ls_origins.specs.declared.safe_answer.SafeAnswer.{SafeAnswer}
use Rattle.ls_origins.specs.declared.safe_fault.SafeFault.{SafeFault}
use Rattle.ls_origins.specs.declared.safe_fault.SafeFault.TheVariants.{BadQuery, Repeat, Full, Past}

-- a trial: the members that do not break the query
abbrev pub trial : Query → List Items → List Items
trial r f = filter (λ k. not (breaks k r)) f

-- they are a learning space
abbrev pub is_safe : ℕ → List Items → Query → Bool
is_safe n f r = is_learning_space (full n) (trial r f)

-- the family, and the answers that wait, in the order in which they came
pub record Safe : Type 0 where
  pub family : List Items
  pub waiting : List Query

-- a pass from the front: the first answer whose trial is a learning space is applied, and leaves
-- the list; None where a whole pass applies none
abbrev pub applied_first : ℕ → List Items → List Query → Option Safe
applied_first n f [] = None
applied_first n f (r ∷ rs) =
    if is_safe n f r then Some (record { family = trial r f; waiting = rs })
    else option_map (λ s. record { family = s.family; waiting = r ∷ s.waiting })
    (applied_first n f rs)

-- passes, until one applies none, and at most m
abbrev pub passes : ℕ → ℕ → Safe → Safe
passes n zero s = s
passes n (suc m) s = option_map_or (passes n m) (applied_first n s.family s.waiting) s

-- as many as can apply an answer
abbrev pub settled : ℕ → Safe → Safe
settled n s = passes n (length s.waiting) s

-- one answer more waits, behind the others
abbrev pub awaited : Safe → Query → Safe
awaited s r = record { family = s.family; waiting = s.waiting ++ r ∷ [] }

-- a turn: the answer is put last, and then there are passes
abbrev pub safe_turn : ℕ → Safe → Query → Safe
safe_turn n s r = settled n (awaited s r)

-- after the answers in turn
abbrev pub after_turns : ℕ → Safe → List Query → Safe
after_turns n s [] = s
after_turns n s (r ∷ rs) = after_turns n (safe_turn n s r) rs

-- the safe family and what waits, from a learning space on
unfoldable pub safe : ℕ → List Items → List Query → Safe
safe n f answers = after_turns n (record { family = f; waiting = [] }) answers

-- ---- the same with the answers, each with a mark where it is applied

-- the queries that wait
abbrev pub waiting : List SafeAnswer → List Query
waiting answers = map (λ a. a.query) (filter (λ a. not a.applied) answers)

-- the family, and all accepted answers in order of number
pub record Marks : Type 0 where
  pub family : List Items
  pub answers : List SafeAnswer

-- the first answer that waits and can be applied is, and is marked so
abbrev pub marked_first : ℕ → List Items → List SafeAnswer → Option Marks
marked_first n f [] = None
marked_first n f (a ∷ rest) =
    if not a.applied
    && is_safe n f a.query then Some
    (record {
      family = trial a.query f;
      answers = record
          { number = a.number; query = a.query; applied = true } ∷ rest;
    })
    else option_map (λ s. record { family = s.family; answers = a ∷ s.answers })
    (marked_first n f rest)

-- passes that mark answers, until one applies none, and at most m
abbrev pub marked_passes : ℕ → ℕ → Marks → Marks
marked_passes n zero s = s
marked_passes n (suc m) s = option_map_or (marked_passes n m) (marked_first n s.family s.answers) s

-- as many as can apply an answer that waits
abbrev pub marked_settled : ℕ → Marks → Marks
marked_settled n s = marked_passes n (length (waiting s.answers)) s

-- an answer that comes: it gets the next number, and waits
abbrev pub coming : List SafeAnswer → Query → SafeAnswer
coming answers r = record { number = suc (length answers); query = r; applied = false }

-- a turn: the answer comes last, and then there are passes
abbrev pub marked_turn : ℕ → Marks → Query → Marks
marked_turn n s r =
    marked_settled n (record { family = s.family; answers = s.answers ++ coming s.answers r ∷ [] })

-- after the answers Yes to these queries, in turn
abbrev pub after_marked_turns : ℕ → Marks → List Query → Marks
after_marked_turns n s [] = s
after_marked_turns n s (r ∷ rs) = after_marked_turns n (marked_turn n s r) rs

-- the safe family and the answers, from a learning space on
unfoldable pub marked : ℕ → List Items → List Query → Marks
marked n f answers = after_marked_turns n (record { family = f; answers = [] }) answers

-- ---- the trials that are made

-- those of a pass
abbrev pub tried : ℕ → List Items → List Query → List (List Items)
tried n f [] = []
tried n f (r ∷ rs) = trial r f ∷ (if is_safe n f r then [] else tried n f rs)

-- those of at most m passes
abbrev pub tried_in : ℕ → ℕ → Safe → List (List Items)
tried_in n zero s = []
tried_in n (suc m) s =
    tried n s.family s.waiting
    ++ option_map_or (tried_in n m) (applied_first n s.family s.waiting) []

-- all, to the pass that applies none
abbrev pub all_tried : ℕ → Safe → List (List Items)
all_tried n s = tried_in n (suc (length s.waiting)) s

-- those of a turn
abbrev pub turn_trials : ℕ → Safe → Query → List (List Items)
turn_trials n s r = all_tried n (awaited s r)

-- the size of the first base that has more sets than the limit, among those of some families
abbrev pub first_past : ℕ → List (List Items) → Option ℕ
first_past limit families = find (λ size. nat_lt limit size) (map (λ g. length (base g)) families)

-- that of the first such trial of a turn
abbrev pub turn_past : ℕ → ℕ → Safe → Query → Option ℕ
turn_past limit n s r = first_past limit (turn_trials n s r)

-- ---- which answers are accepted

-- the number of the answer that was accepted to the query
abbrev pub accepted_number : List Query → Query → Option ℕ
accepted_number answers r = option_map suc (position (λ q. is_same_query q r) answers)

-- The first of these that holds: the query is not good; it was accepted; as many were accepted as
-- can be; a trial has too large a base.
unfoldable pub safe_refusal : ℕ → List Items → List Query → Query → Option SafeFault
safe_refusal n f answers r =
    option_or (if is_good n r then None else Some BadQuery)
    (option_or (option_map Repeat (accepted_number answers r))
    (option_or (if nat_le most_answers (length answers) then Some Full else None)
    (option_map Past (turn_past most_base_sets n (safe n f answers) r))))

-- ---- a safe interview, as a session has it

-- the start and the Yes queries that stood at its opening, and its accepted answers in order of
-- number
pub record SafeInterview : Type 0 where
  pub start : Start
  pub yeses : List Query
  pub answers : List Query

-- the safe interview that opens: its start and Yes queries stand, and it has no answers
abbrev pub opened : Interview → SafeInterview
opened i = record { start = i.start; yeses = yes_queries i.answers; answers = [] }

-- the states at its opening
abbrev pub first_family : ℕ → SafeInterview → List Items
first_family n i = compat n i.start i.yeses

-- the states that remain after its answers
abbrev pub safe_family : ℕ → SafeInterview → List Items
safe_family n i = (safe n (first_family n i) i.answers).family

-- its answers with their numbers, each marked where it is applied
abbrev pub safe_answers : ℕ → SafeInterview → List SafeAnswer
safe_answers n i = (marked n (first_family n i) i.answers).answers

-- one more answer Yes, to this query, is accepted
abbrev pub answered : SafeInterview → Query → SafeInterview
answered i r = record i { answers = i.answers ++ r ∷ [] }
