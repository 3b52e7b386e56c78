use Rattle.ls_codecs.proofs.Vocabulary.{◌≡◌, lists, map, set_codec, take, view}
use Rattle.ls_codecs.proofs.starts.clauses_value.Given as goal

abbrev pub invariant-loop-q : goal.invariant-loop-q
invariant-loop-q l = map view l.values.items ≡ map (lists (set_codec l.n)).write (take l.q l.surmise.clauses)
