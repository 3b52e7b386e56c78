use Rattle.ls_codecs.proofs.Vocabulary.{drop, read_list, view}
use Rattle.ls_codecs.proofs.Walks.{IsReadTo}
use Rattle.ls_codecs.proofs.lists.read_list.Given as goal

abbrev pub invariant-loop-entry : goal.invariant-loop-entry
invariant-loop-entry g l =
    IsReadTo (g.T.FromValue.reads l.version l.n) l.list.items (drop l.entry-index l.entry-items) (read_list (g.T.FromValue.reads l.version l.n) (view l.value))
