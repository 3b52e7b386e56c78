use Rattle.ls_cutting.proofs.Vocabulary.{◌≡◌, take}
use Rattle.ls_cutting.proofs.word_list.WordList.from_tokens.Given as goal

abbrev pub invariant-loop-token : goal.invariant-loop-token
invariant-loop-token l = l.words.items ≡ take l.token-index l.tokens
