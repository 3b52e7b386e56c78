use Rattle.ls_write.proofs.Vocabulary.{◌≡◌, IsTextOf, take}
use Rattle.ls_write.proofs.path_text.PathText.fill.Given as goal

abbrev pub invariant-loop-place : goal.invariant-loop-place
invariant-loop-place l = record {
  front : l.self.front ≡ take l.place l.order;
  text : IsTextOf l.texts l.self;
}
