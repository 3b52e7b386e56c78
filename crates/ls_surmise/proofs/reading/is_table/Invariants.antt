use Rattle.ls_surmise.proofs.Vocabulary.{◌≡◌, is_some, members_view, read_clauses, read_members, read_table, view}
use Rattle.ls_surmise.proofs.reading.is_table.Given as goal

abbrev pub invariant-loop-key : goal.invariant-loop-key
invariant-loop-key l = record {
  can : (goal.iterator-loop-key).can_next l._key-iterator;
  finite : (goal.iterator-loop-key).is_finite l._key-iterator;
  rest : is_some (read_members read_clauses (members_view l._key-iterator)) ≡ is_some (read_table (view l.value));
}
