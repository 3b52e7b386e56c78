use Rattle.ls_drill.proofs.Vocabulary.{◌||◌, ◌≡◌, ℕ, drop, has, list_any}
use Rattle.ls_drill.proofs.Askings.{asks}
use Rattle.ls_drill.proofs.asked.asked_items.Given as goal

-- with what is left to look at they are all
abbrev pub invariant-loop-answer : goal.invariant-loop-answer
invariant-loop-answer l = (q : ℕ) → (has l.items q || list_any (asks l.fn.set q) (drop l.answer-index l.answers)) ≡ list_any (asks l.fn.set q) l.answers
