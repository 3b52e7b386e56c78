use Rattle.ls_domain.proofs.Vocabulary.{◌≡◌, Some, [], drop, map, names_from}
use Rattle.ls_domain.proofs.domain.Domain.from_names.Given as goal

abbrev pub invariant-loop-word : goal.invariant-loop-word
invariant-loop-word l = names_from [] (map Some l.names) ≡ names_from l.list (map Some (drop l.word-index l.names))
