use Rattle.ls_store.proofs.Vocabulary.{◌≡◌, ArePupils, drop, length, pupil_codec, pupils_of, read_list, view}
use Rattle.ls_codecs.proofs.Walks.{IsReadTo}
use Rattle.ls_store.proofs.pupils.fill.Given as goal

abbrev pub invariant-loop-entry : goal.invariant-loop-entry
invariant-loop-entry g l = record {
  read : IsReadTo (pupil_codec l.version l.n).read (pupils_of l.cases) (drop l.entry-index l.entry-items) (read_list (pupil_codec l.version l.n).read (view l.value));
  cases : ArePupils l.n l.cases;
  count : length l.cases ≡ l.entry-index;
}
