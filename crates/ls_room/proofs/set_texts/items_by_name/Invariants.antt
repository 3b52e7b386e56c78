use Rattle.ls_room.proofs.Vocabulary.{◌-◌, ◌≡◌, ◌≤◌, by_name, length, numbers_from}
use Rattle.ls_room.proofs.set_texts.items_by_name.Given as goal

-- those from an item on are in order
abbrev pub invariant-loop-item : goal.invariant-loop-item
invariant-loop-item l = record {
  within : l.item ≤ length l.domain;
  order : l.order.items ≡ by_name l.domain (numbers_from l.item (length l.domain - l.item));
}
