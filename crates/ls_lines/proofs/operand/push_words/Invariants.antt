use Rattle.ls_lines.proofs.Vocabulary.{◌++◌, ◌≡◌, take, with_spaces}
use Rattle.ls_lines.proofs.operand.push_words.Given as goal

abbrev pub invariant-loop-word : goal.invariant-loop-word
invariant-loop-word l = l.text.items ≡ l.fn.text.items ++ with_spaces (take l.word-index l.word-items)
