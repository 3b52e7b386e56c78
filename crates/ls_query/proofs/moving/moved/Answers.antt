use Rattle.ls_query.proofs.Vocabulary.{◌+◌, ◌-◌, ◌<◌, ◌≤◌, arith, keep_before, len}
use Rattle.ls_query.proofs.Steps.{kept_fewer, end_within}
use Rattle.ls_query.proofs.moving.moved.Goals as goal

pub overflow_sub-end : goal.overflow_sub-end
overflow_sub-end c =
    let l : len (keep_before c.args.a c.args.i) < len c.args.a = kept_fewer c.args.a c.args.i c.requires.last.here in
    rw (c.len-2.ensures, c.keep_before-kept.ensures, c.len.ensures) (omega arith)

pub overflow_add-end-2 : goal.overflow_add-end-2
overflow_add-end-2 c =
    let l : c.args.i + 1 + (len c.args.a - len (keep_before c.args.a c.args.i)) ≤ c.args.n = end_within c.args.n c.args.a c.args.i c.requires.within c.requires.last in
    rw (c.len-2.ensures, c.keep_before-kept.ensures, c.len.ensures) (omega (arith, l))

pub full-requires : goal.full-requires
full-requires c =
    let l : c.args.i + 1 + (len c.args.a - len (keep_before c.args.a c.args.i)) ≤ c.args.n = end_within c.args.n c.args.a c.args.i c.requires.within c.requires.last in
    rw (c.len-2.ensures, c.keep_before-kept.ensures, c.len.ensures) (omega (arith, l, c.requires.items))
