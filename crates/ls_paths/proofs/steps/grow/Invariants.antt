use Rattle.ls_paths.proofs.Vocabulary.{◌++◌, ◌-◌, ◌≡◌, first_growth, full, is_among, length, minus, take, true}
use Rattle.ls_paths.proofs.steps.grow.Given as goal

-- the items so far, and those by which what is reached grows first
abbrev pub invariant-loop-slot : goal.invariant-loop-slot
invariant-loop-slot g l =
    let n = g.F.Inside.item_count l.f in
    let f = g.F.Inside.members l.f in
    record {
      grows : first_growth n f (length l.fn.order) l.fn.k ≡ take l.slot-index l.order ++ first_growth n f (length l.fn.order - l.slot-index) l.reached;
      outside : l.left ≡ minus (full n) l.reached;
      member : is_among f l.reached ≡ true;
    }
