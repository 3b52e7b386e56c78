-- How many interiors an interview takes.
--     most_steps i r is_yes      for an answer to r
--     steps_back i answer      for the retraction of an answer
--     question_steps i after      for the search for the first open query after another, or of all
use Rattle.std.specs.Prelude.{ℕ, ◌+◌, ◌*◌, Bool, true, false, if◌then◌else◌, length, count_by}
use Rattle.std.specs.Prelude.{Option, Some, None}
use Rattle.std.specs.Option.{option_map}
use Rattle.ls_set.specs.{Items, full, is_within}
use Rattle.ls_set.specs.declared.query.Query.{Query}
use Rattle.ls_theory.specs.declared.answer.Answer.{Answer}
use Rattle.ls_theory.specs.{Interview, blocks, closure, compatible_sets, next_question, nos}
use Rattle.ls_infer.specs.Search.{looked_at}
use Rattle.ls_expert.specs.Held.{blocks_of}

-- how many items have a closure with all items of A
abbrev pub closures_over : Interview → Items → ℕ
closures_over i a =
    count_by (λ b. is_within a (closure (full i.count) (compatible_sets i) b)) (blocks i.count 1)

-- The most interiors that an answer takes: one to test it. A No takes one for each item
-- and one more; a Yes to a query (A, q) takes one for each item whose closure has the items of A,
-- and as many as a No for each No that stands.
abbrev pub most_steps : Interview → Query → Bool → ℕ
most_steps i r true = 1 + (closures_over i r.a + (i.count + 1) * length (nos i.answers))
most_steps i r false = i.count + 2

-- The most interiors that the retraction of an answer takes: none for a No;
-- for a Yes to (A, q) one for each item whose closure has the items of A, and for each No
-- that stands one for each item and one more.
abbrev pub steps_back : Interview → Option Answer → ℕ
steps_back i None = 0
steps_back i (Some a) =
    if a.yes then closures_over i a.query.a + (i.count + 1) * length (nos i.answers) else 0

-- The most interiors that the search for an open query takes: for each block set that is looked at,
-- from that of the query on up to that of the one found, one more than the largest has items.
abbrev pub question_steps : Interview → Option Query → ℕ
question_steps i after =
    (i.block + 1)
    * looked_at (blocks_of i) (option_map (λ r. r.a) after) (next_question i after)
