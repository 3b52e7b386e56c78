use Rattle.ls_room.proofs.Vocabulary.{◌*◌, ◌≡◌, length}
use Rattle.ls_room.proofs.Digits.{AreWritten}
use Rattle.ls_room.proofs.set_texts.write_digits.Given as goal

-- the digits of the groups so far are written
abbrev pub invariant-loop-group : goal.invariant-loop-group
invariant-loop-group l = record {
  long : length l.digits ≡ 128;
  written : AreWritten l.s l.digits (2 * l.group);
}
