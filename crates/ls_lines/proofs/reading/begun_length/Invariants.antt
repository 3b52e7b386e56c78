use Rattle.ls_lines.proofs.Vocabulary.{◌+◌, ◌≡◌, ◌≤◌, begun_length, drop, length}
use Rattle.ls_lines.proofs.reading.begun_length.Given as goal

abbrev pub invariant-loop-part : goal.invariant-loop-part
invariant-loop-part l = record {
  in_range : l.count ≤ length l.words;
  value : l.count + begun_length (drop l.part-index l.parts) (drop l.count l.words) ≡ begun_length l.parts l.words;
}
