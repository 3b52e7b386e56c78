use Rattle.ls_codecs.proofs.Vocabulary.{◌≡◌, map, take, view}
use Rattle.ls_codecs.proofs.lists.write_list.Given as goal

abbrev pub invariant-loop-one : goal.invariant-loop-one
invariant-loop-one g l = map view l.values.items ≡ map (g.T.ToValue.writes l.n) (take l.one-index l.list)
