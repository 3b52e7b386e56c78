use Rattle.ls_standing.proofs.Vocabulary.{◌≡◌, nos, take}
use Rattle.ls_standing.proofs.answers.nos.Given as goal

-- the Nos so far
abbrev pub invariant-loop-answer : goal.invariant-loop-answer
invariant-loop-answer l = l.found.items ≡ nos (take l.answer-index l.answers)
