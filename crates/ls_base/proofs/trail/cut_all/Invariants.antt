use Rattle.ls_base.proofs.Vocabulary.{◌++◌, ◌≡◌, cut, drop, map, take}
use Rattle.ls_base.proofs.trail.cut_all.Given as goal

-- those so far are cut, and those that are left are as they were
abbrev pub invariant-loop-entry : goal.invariant-loop-entry
invariant-loop-entry l = l.entries ≡ map (cut l.count) (take l.entry-index l.initial.entries) ++ drop l.entry-index l.initial.entries
