use Rattle.ls_room.proofs.Vocabulary.{◌%◌, ◌/◌, ◌≡◌, group_text, map, numbers_from}
use Rattle.ls_room.proofs.set_texts.texts_of.Given as goal

abbrev pub invariant-loop-index : goal.invariant-loop-index
invariant-loop-index l = l.texts ≡ map (λ k. group_text l.domain (k / 256) (k % 256)) (numbers_from 0 l.index)
