use Rattle.ls_standing.proofs.Vocabulary.{◌≡◌, drop}
use Rattle.ls_standing.proofs.Saving.{apart}
use Rattle.ls_standing.proofs.saved.are_distinct.Given as goal

-- no query is there twice where none is among those that are left
abbrev pub invariant-loop-place : goal.invariant-loop-place
invariant-loop-place l = apart (drop l.place l.answers) ≡ apart l.answers
