use Rattle.std.proofs.Common.{◌≡◌, map, take}
use Rattle.ls_domain.specs.Meanings.{item_of}
use Rattle.ls_resolve.proofs.names.items_of.Given as goal

abbrev pub invariant-loop-word : goal.invariant-loop-word
invariant-loop-word l = l.items ≡ map (item_of l.domain) (take l.word-index l.names)
