use Rattle.ls_surmise.proofs.Vocabulary.{◌≡◌, take}
use Rattle.ls_surmise.proofs.surmise.copied_lists.Given as goal

abbrev pub invariant-loop-list : goal.invariant-loop-list
invariant-loop-list l = l.copied.items ≡ take l.list-index l.lists
