use Rattle.ls_lines.proofs.Vocabulary.{◌++◌, ◌≡◌, drop, flat_map, laid_out, map, shown, with_spaces}
use Rattle.ls_lines.proofs.printing.spaced.Given as goal

abbrev pub invariant-loop-part : goal.invariant-loop-part
invariant-loop-part l = l.text.items ++ with_spaces (flat_map (λ ws. ws) (laid_out (drop l.part-index l.form) (map shown l.left))) ≡ with_spaces (flat_map (λ ws. ws) (laid_out l.form (map shown l.operands)))
