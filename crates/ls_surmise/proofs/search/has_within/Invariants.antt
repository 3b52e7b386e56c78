use Rattle.ls_surmise.proofs.Vocabulary.{◌-◌, ◌≡◌, drop, is_within, length, list_any}
use Rattle.ls_surmise.proofs.search.has_within.Given as goal

abbrev pub invariant-loop-place : goal.invariant-loop-place
invariant-loop-place l = list_any (λ c. is_within c l.set) (drop l.place l.sets) ≡ list_any (λ c. is_within c l.set) l.sets

abbrev pub decreases-loop-place : goal.decreases-loop-place
decreases-loop-place l = length l.sets - l.place
