use Rattle.ls_codecs.proofs.Vocabulary.{as_str, drop, read_list, view}
use Rattle.ls_codecs.proofs.Walks.{IsReadTo}
use Rattle.ls_codecs.proofs.names.read_words.Given as goal

abbrev pub invariant-loop-entry : goal.invariant-loop-entry
invariant-loop-entry l = IsReadTo as_str l.words (drop l.entry-index l.entry-items) (read_list as_str (view l.value))
