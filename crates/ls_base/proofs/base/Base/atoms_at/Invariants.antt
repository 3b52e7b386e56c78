use Rattle.ls_base.proofs.Vocabulary.{◌≡◌, filter, is_atom_at, take}
use Rattle.ls_base.proofs.base.Base.atoms_at.Given as goal

abbrev pub invariant-loop-set : goal.invariant-loop-set
invariant-loop-set l = l.atoms ≡ filter (is_atom_at l.set-items l.q) (take l.set-index l.set-items)
