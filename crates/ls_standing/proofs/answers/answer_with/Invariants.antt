use Rattle.ls_standing.proofs.Vocabulary.{◌≡◌, drop, eqb, find}
use Rattle.ls_standing.proofs.answers.answer_with.Given as goal

-- the first with the number is among those that are left
abbrev pub invariant-loop-answer : goal.invariant-loop-answer
invariant-loop-answer l = find (λ a. eqb a.number l.number) (drop l.answer-index l.answers) ≡ find (λ a. eqb a.number l.number) l.answers
