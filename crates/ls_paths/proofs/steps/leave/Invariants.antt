use Rattle.ls_paths.proofs.Vocabulary.{◌≡◌, IsWithin, empty, full, leaves_below, minus, grown_to, take}
use Rattle.ls_paths.proofs.steps.leave.Given as goal

-- no growth leaves the list from the place on
abbrev pub invariant-loop-place : goal.invariant-loop-place
invariant-loop-place g l =
    let n = g.F.Inside.item_count l.f in
    let f = g.F.Inside.members l.f in
    record {
      passed : leaves_below n f empty l.fn.order l.level ≡ leaves_below n f empty l.fn.order l.place;
      same : l.order ≡ l.fn.order;
      set : l.reached ≡ grown_to empty (take l.place l.fn.order);
      outside : l.outside ≡ minus (full n) l.reached;
      small : IsWithin l.reached (full n);
    }
