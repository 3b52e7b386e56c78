use Rattle.ls_surmise.proofs.Vocabulary.{◌≡◌, are_known, is_known, members_view, view}
use Rattle.ls_surmise.proofs.reading.is_known.Given as goal

abbrev pub invariant-loop-key : goal.invariant-loop-key
invariant-loop-key l = record {
  can : (goal.iterator-loop-key).can_next l.key-iterator;
  finite : (goal.iterator-loop-key).is_finite l.key-iterator;
  rest : are_known l.d (members_view l.key-iterator) ≡ is_known l.d (view l.value);
}
