use Rattle.ls_standing.proofs.Vocabulary.{◌≡◌, take, yes_queries}
use Rattle.ls_standing.proofs.answers.yes_queries.Given as goal

-- the queries of the Yes answers so far
abbrev pub invariant-loop-answer : goal.invariant-loop-answer
invariant-loop-answer l = l.found.items ≡ yes_queries (take l.answer-index l.answers)
