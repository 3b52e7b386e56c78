use Rattle.ls_rules.proofs.Vocabulary.{◌≡◌, IsWithin, drop, fold, look, rules_at}
use Rattle.ls_rules.proofs.waking.look_keeping.Given as goal

-- what is left to look at gives the whole, and nothing was lost of what is to be kept
abbrev pub invariant-loop-place : goal.invariant-loop-place
invariant-loop-place l = record {
  rest : fold look l.round (rules_at l.rules (drop l.place-index l.places)) ≡ fold look l.fn.round (rules_at l.rules l.places);
  keeps : IsWithin l.keep l.fn.round.kept → IsWithin l.keep l.round.kept;
}
