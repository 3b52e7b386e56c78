use Rattle.ls_room.proofs.Vocabulary.{◌%◌, ◌*◌, ◌++◌, ◌-◌, ◌≡◌, bit_at, eqb, numbers_from, spaced_names}
use Rattle.ls_room.proofs.set_texts.push_group.Given as goal

abbrev pub invariant-loop-item : goal.invariant-loop-item
invariant-loop-item l = l.out.items ≡ l.fn.out.items ++ spaced_names l.domain (λ i. eqb (bit_at l.fn.pattern (i % 8)) 1) (numbers_from (8 * l.fn.group) (l.item - 8 * l.fn.group))
