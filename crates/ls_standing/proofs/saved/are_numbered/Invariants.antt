use Rattle.ls_standing.proofs.Vocabulary.{◌≡◌, drop}
use Rattle.ls_standing.proofs.Saving.{rises}
use Rattle.ls_standing.proofs.saved.are_numbered.Given as goal

-- all rise where those rise that are left
abbrev pub invariant-loop-answer : goal.invariant-loop-answer
invariant-loop-answer l = rises l.least l.next (drop l.answer-index l.answers) ≡ rises 0 l.next l.answers
