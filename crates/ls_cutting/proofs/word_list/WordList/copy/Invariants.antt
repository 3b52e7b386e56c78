use Rattle.ls_cutting.proofs.Vocabulary.{◌≡◌, take}
use Rattle.ls_cutting.proofs.word_list.WordList.copy.Given as goal

abbrev pub invariant-loop-word : goal.invariant-loop-word
invariant-loop-word l = l.words.items ≡ take l.word-index l.word-items
