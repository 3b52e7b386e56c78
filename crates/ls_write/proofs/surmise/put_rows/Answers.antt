use Rattle.ls_write.proofs.Vocabulary.{◌++◌, ◌<◌, ◌∙◌, ◌≤◌, [], arith, comma_if, drop, false, get_or, length, listed, refl, row_text, sym}
use Rattle.ls_room.proofs.Saying.{says_as, says_nothing, says_then, says_void}
use Rattle.ls_write.proofs.Listed.{place-next, place-end}
use Rattle.ls_write.proofs.surmise.put_rows.Goals as goal

pub loop-item-init : goal.loop-item-init
loop-item-init g c = ([], record { said = says_nothing _ _ _; left = refl })

pub returns-then-has_failed : goal.returns-then-has_failed
returns-then-has_failed g c =
    let before = c.loop-item.invariant.1 in
    let rest = listed (row_text c.args.texts.now c.args.sets.now) c.loop-item.later (drop c.loop-item.item-index c.args.items.now) in
    says_as before.left (says_then before.said (says_void rest (sym c.has_failed.ensures ∙ c.if-has_failed.true)))

pub put_row-requires-clause-place : goal.put_row-requires-clause-place
put_row-requires-clause-place g c =
    let test : c.loop-item.item-index < length c.args.items.now = omega arith in
    c.requires.items c.loop-item.item-index 0 test

pub loop-item-preserved : goal.loop-item-preserved
loop-item-preserved g c =
    let text = row_text c.args.texts.now c.args.sets.now in
    let items = c.args.items.now in
    let i = c.loop-item.item-index in
    let given = c.loop-item.invariant.0 in
    let before = c.loop-item.invariant.1 in
    let test : i < length items = omega arith in (
      given ++ (comma_if c.loop-item.later ++ text (get_or items i 0)),
      record {
        said = says_then before.said (says_then c.put_comma.ensures c.put_row.ensures);
        left = place-next text given (listed text false items) c.loop-item.later items i 0 test before.left;
      },
    )

pub returns : goal.returns
returns g c =
    let text = row_text c.args.texts.now c.args.sets.now in
    let items = c.args.items.now in
    let before = c.loop-item.invariant.1 in
    let test : length items ≤ c.loop-item.item-index = omega arith in
    says_as (place-end text c.loop-item.invariant.0 (listed text false items) c.loop-item.later items c.loop-item.item-index test before.left) before.said
