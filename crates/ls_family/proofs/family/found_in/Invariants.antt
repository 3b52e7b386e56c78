use Rattle.ls_family.proofs.Vocabulary.{◌+◌, ◌≡◌, ◌≤◌, [], found_from, length, lines}
use Rattle.ls_family.proofs.Rows.{read_on, left}
use Rattle.ls_family.proofs.family.found_in.Given as goal

abbrev pub invariant-loop-text : goal.invariant-loop-text
invariant-loop-text l = record {
  so_far : found_from l.d [] 1 (lines l.bytes) ≡ read_on l.d l.found l.row l.text;
  room : l.row + left l.text ≤ length l.bytes + 2;
}

abbrev pub decreases-loop-text : goal.decreases-loop-text
decreases-loop-text l = left l.text
