use Rattle.ls_paths.proofs.Vocabulary.{◌≡◌, empty, is_grown, grown_to, take, true}
use Rattle.ls_paths.proofs.steps.first_level.Given as goal

-- the items so far could be added one after another
abbrev pub invariant-loop-place : goal.invariant-loop-place
invariant-loop-place g l =
    record {
      set : l.reached ≡ grown_to empty (take l.place l.order);
      grown : is_grown (g.F.Inside.members l.f) empty (take l.place l.order) ≡ true;
    }
