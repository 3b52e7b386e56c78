use Rattle.ls_room.proofs.Vocabulary.{◌<◌, ◌≡◌, ℕ, false, get_or}
use Rattle.ls_room.proofs.NameOrder.{comes_first}
use Rattle.ls_room.proofs.set_texts.place_by_name.Given as goal

-- the item comes before none of those that were passed
abbrev pub invariant-loop-place : goal.invariant-loop-place
invariant-loop-place l = (m : ℕ) → m < l.place → comes_first l.domain l.item (get_or l.order m 0) ≡ false
