use Rattle.ls_standing.proofs.Vocabulary.{◌≡◌, eqb, filter, not, take, yes_queries}
use Rattle.ls_standing.proofs.answers.yes_others.Given as goal

-- the queries of the other Yes answers so far
abbrev pub invariant-loop-answer : goal.invariant-loop-answer
invariant-loop-answer l = l.found.items ≡ yes_queries (filter (λ a. not (eqb a.number l.number)) (take l.answer-index l.answers))
