use Rattle.ls_base.proofs.Vocabulary.{◌≡◌, family, map, own_items, take}
use Rattle.ls_base.proofs.base.Base.atom_sets.Given as goal

abbrev pub invariant-loop-place : goal.invariant-loop-place
invariant-loop-place l = l.sets ≡ map (own_items (family l.self)) (take l.place l.self.sets)
