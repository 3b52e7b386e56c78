use Rattle.ls_standing.proofs.Vocabulary.{◌≡◌, drop, list_all, no_queries, some_breaks}
use Rattle.ls_standing.proofs.saved.each_no_broken.Given as goal

-- each No is broken where each is that is left
abbrev pub invariant-loop-answer : goal.invariant-loop-answer
invariant-loop-answer g l = list_all (some_breaks (g.I.Interior.members l.f)) (no_queries (drop l.answer-index l.answers)) ≡ list_all (some_breaks (g.I.Interior.members l.f)) (no_queries l.answers)
