use Rattle.ls_lines.proofs.Vocabulary.{◌++◌, ◌≡◌, ◌≤◌, All, IsAscii, cut, drop, length, map, option_map}
use Rattle.ls_lines.proofs.cut.Cut.new.Given as goal

abbrev pub invariant-loop-part : goal.invariant-loop-part
invariant-loop-part l = record {
  in_range : l.start ≤ length l.words;
  each : length l.parts.items ≡ l.part-index;
  value : option_map (λ lists. map (λ p. p.now) l.parts.items ++ lists) (cut (drop l.part-index l.form) (drop l.start l.words)) ≡ cut l.form l.words;
  ascii : All (λ ws. All IsAscii ws) (map (λ p. p.now) l.parts.items);
}
