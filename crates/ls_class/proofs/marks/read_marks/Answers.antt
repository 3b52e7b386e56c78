use Rattle.ls_class.proofs.Vocabulary.{◌<◌, ◌∙◌, ◌≡◌, ◌≤◌, Some, ap, arith, drop, false, fields_of, is_mark, length, length-drop, refl, sym, true, union-empty_left}
use Rattle.ls_class.proofs.Marked.{mark-at, column-at, next-right, next-wrong, next-mark, no_mark, right-end, marks-end, marked-bad, marked-good}
use Rattle.ls_class.proofs.marks.read_marks.Goals as goal
use Rattle.ls_class.proofs.marks.read_marks.Goals.{then-is_right, else-is_right+else-not-is_wrong}

pub loop-place-init : goal.loop-place-init
loop-place-init c = record { marks = refl; items = rw c.empty-right.ensures (union-empty_left _) }

pub returns-then-not-is_wrong : goal.returns-then-not-is_wrong
returns-then-not-is_wrong c =
    let fields = fields_of c.args.fields.now in
    let columns = c.args.columns.now in
    let lt : c.loop-place.place < length (drop 1 fields) = omega (arith, length-drop 1 fields, c.len.ensures, c.if-len-columns.false, c.loop-place-test.true) in
    let mark = mark-at fields c.loop-place.place c.unwrap_or-mark.result c.get.result _ c.unwrap_or-mark.ensures c.get.ensures.value lt in
    let column = column-at columns c.loop-place.place c.loop-place-test.true in
    let never : is_mark c.unwrap_or-mark.result.now ≡ false = rw (sym c.is_right.ensures ∙ c.if-is_right.false, sym c.if-not-is_wrong.ensures) refl in
    sym (marked-bad columns (drop 1 fields) (sym c.loop-place.invariant.marks ∙ no_mark columns (drop 1 fields) c.loop-place.place _ c.unwrap_or-mark.result.now column mark never))

pub loop-place-preserved : goal.loop-place-preserved
loop-place-preserved c =
    let fields = fields_of c.args.fields.now in
    let columns = c.args.columns.now in
    let lt : c.loop-place.place < length (drop 1 fields) = omega (arith, length-drop 1 fields, c.len.ensures, c.if-len-columns.false, c.loop-place-test.true) in
    let mark = mark-at fields c.loop-place.place c.unwrap_or-mark.result c.get.result _ c.unwrap_or-mark.ensures c.get.ensures.value lt in
    let column = column-at columns c.loop-place.place c.loop-place-test.true in
    elim c.if-is_right.branch [
      | then-is_right w ↦
          let is_mark : is_mark c.unwrap_or-mark.result.now ≡ true = rw (sym w.if-is_right.ensures) refl in
          record {
            marks = sym (next-mark columns (drop 1 fields) c.loop-place.place _ c.unwrap_or-mark.result.now column mark is_mark) ∙ c.loop-place.invariant.marks;
            items = rw (w.right-is, w.with-right.ensures) (sym (next-right columns (drop 1 fields) c.loop-place.place _ c.unwrap_or-mark.result.now column mark c.loop-place.right (sym w.if-is_right.ensures)) ∙ c.loop-place.invariant.items);
          }
      | else-is_right+else-not-is_wrong w ↦
          let is_mark : is_mark c.unwrap_or-mark.result.now ≡ true = rw (sym w.if-is_right.ensures, sym w.if-not-is_wrong.ensures) refl in
          record {
            marks = sym (next-mark columns (drop 1 fields) c.loop-place.place _ c.unwrap_or-mark.result.now column mark is_mark) ∙ c.loop-place.invariant.marks;
            items = rw w.right-is (sym (next-wrong columns (drop 1 fields) c.loop-place.place _ c.unwrap_or-mark.result.now column mark c.loop-place.right (sym w.if-is_right.ensures)) ∙ c.loop-place.invariant.items);
          }
    ]

pub returns : goal.returns
returns c =
    let marks = drop 1 (fields_of c.args.fields.now) in
    let columns = c.args.columns.now in
    let count : length marks ≡ length columns = omega (arith, length-drop 1 (fields_of c.args.fields.now), c.len.ensures, c.if-len-columns.false, c.requires.fields) in
    let end : length columns ≤ c.loop-place.place = omega (arith, c.loop-place-test.false) in
    let so_far = c.loop-place.invariant in
    ap Some (sym (right-end columns marks c.loop-place.place c.loop-place.right end) ∙ so_far.items)
    ∙ sym (marked-good columns marks count (sym so_far.marks ∙ marks-end marks c.loop-place.place (omega (arith, count, end))))
