use Rattle.ls_surmise.proofs.Vocabulary.{◌≡◌, drop, members_from, members_view}
use Rattle.ls_surmise.proofs.surmise.Surmise.members.Given as goal

abbrev pub invariant-loop-q : goal.invariant-loop-q
invariant-loop-q l = members_view l.members.entries ≡ members_from l.d (drop l.q l.d) (drop l.q l.self.clauses)
