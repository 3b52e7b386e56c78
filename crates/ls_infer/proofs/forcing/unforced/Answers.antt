use Rattle.ls_infer.proofs.Vocabulary.{◌&&◌, ◌+◌, ◌∙◌, drop, forces, has, list_any, not}
use Rattle.ls_infer.proofs.Kept.{unforced-first, unforced-next, unforced-none, none_left}
use Rattle.ls_infer.proofs.forcing.unforced.Goals as goal

pub returns-then-is_none : goal.returns-then-is_none
returns-then-is_none c q =
    let ss = c.args.standing.now in
    let left = c.unforced_at-left.result in
    let p = forces (record { a = c.args.a; q = q }) in
    unforced-none (has left q) (list_any p ss) (has c.args.undecided q && not (list_any p ss))
    (none_left left q c.least.result c.least.ensures.value c.if-is_none.ensures)
    (unforced-first p ss c.args.hint.now (has c.args.undecided q) (has left q) (c.unforced_at-left.ensures q))

pub loop-place-init : goal.loop-place-init
loop-place-init c q =
    unforced-first (forces (record { a = c.args.a; q = q })) c.args.standing.now c.args.hint.now (has c.args.undecided q) (has c.unforced_at-left.result q) (c.unforced_at-left.ensures q)

pub returns-then-is_none-2 : goal.returns-then-is_none-2
returns-then-is_none-2 c q =
    let ss = c.args.standing.now in
    let i = c.loop-place.place in
    let s = c.index-standing-place.result in
    let left = c.unforced-left.result in
    let p = forces (record { a = c.args.a; q = q }) in
    unforced-none (has left q) (list_any p (drop (i + 1) ss)) (has c.args.undecided q && not (list_any p ss))
    (none_left left q c.least-in-loop-place.result c.least-in-loop-place.ensures.value c.if-is_none-2.ensures)
    (unforced-next p ss i s (has c.loop-place.left q) (has left q) c.loop-place-test.true c.index-standing-place.is (c.unforced-left.ensures q) ∙ c.loop-place.invariant q)

pub loop-place-preserved : goal.loop-place-preserved
loop-place-preserved c q =
    let p = forces (record { a = c.args.a; q = q }) in
    unforced-next p c.args.standing.now c.loop-place.place c.index-standing-place.result (has c.loop-place.left q) (has c.unforced-left.result q) c.loop-place-test.true c.index-standing-place.is (c.unforced-left.ensures q)
    ∙ c.loop-place.invariant q
