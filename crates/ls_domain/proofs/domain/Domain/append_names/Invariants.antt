use Rattle.ls_domain.proofs.Vocabulary.{◌++◌, ◌≡◌, full, gap, items, join_with_byte, length, map, meet, name_of}
use Rattle.ls_domain.proofs.domain.Domain.append_names.Given as goal

abbrev pub invariant-loop-item : goal.invariant-loop-item
invariant-loop-item l = record {
  joined : l.out.items ≡ l.fn.out.items ++ join_with_byte 32 (map (name_of l.self) l.yielded);
  parted : l.gap ≡ gap l.yielded;
  split : l.yielded ++ items l.item-iterator ≡ items (meet l.fn.s (full (length l.self)));
}
