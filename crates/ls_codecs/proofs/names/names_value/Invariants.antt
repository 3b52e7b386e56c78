use Rattle.ls_codecs.proofs.Vocabulary.{◌≡◌, map, string, take, view}
use Rattle.ls_codecs.proofs.names.names_value.Given as goal

abbrev pub invariant-loop-i : goal.invariant-loop-i
invariant-loop-i l = map view l.values.items ≡ map string (take l.i l.domain)
