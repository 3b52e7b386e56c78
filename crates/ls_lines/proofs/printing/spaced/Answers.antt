use Rattle.ls_lines.proofs.Vocabulary.{map, shown, take_rest}
use Rattle.ls_lines.proofs.Printed.{own_word, operand, no_operand, no_part, none_left, one_left}
use Rattle.ls_lines.proofs.printing.spaced.Goals as goal
use Rattle.ls_lines.proofs.printing.spaced.Goals.{in-Fixed-default+in_ok-push_word-in-Fixed-default, in_default-empty, in_default-len1-up+in_ok-push_to-in_default-len1-up}

pub loop-part-preserved : goal.loop-part-preserved
loop-part-preserved c =
    let form = c.args.form.now in
    let i = c.loop-part.part-index in
    let seen = c.loop-part.text.items in
    let left = c.loop-part.left.now in
    let here = c.loop-part-test.true in
    elim c.match-part.branch [
      | in-Fixed-default+in_ok-push_word-in-Fixed-default w ↦
          rw (w.text-is, w.left-is, w.in_ok-push_word-in-Fixed-default.ensures, w.text.ensures) (own_word form i _ w.in-Fixed-default.keyword (map shown left) seen _ here w.in-Fixed-default.is-0 c.loop-part.invariant)
      | in_default-empty w ↦
          let none = none_left left w.in_default-empty.len_below in
          rw (w.text-is, w.left-is, none) (no_operand form i _ seen _ here w.in_default-empty.not-Fixed-0 (rw none at c.loop-part.invariant))
      | in_default-len1-up+in_ok-push_to-in_default-len1-up w ↦
          let one = one_left left w.operand-item.result w.in_default-len1-up.len_at_least w.operand-item.is in
          rw (w.text-is, w.left-is, w.in_ok-push_to-in_default-len1-up.ensures, take_rest) (operand form i _ (shown w.operand-item.result) _ seen _ here w.in_default-len1-up.not-Fixed-0 (rw one at c.loop-part.invariant))
    ]

pub returns : goal.returns
returns c = no_part c.args.form.now c.loop-part.part-index (map shown c.loop-part.left.now) c.loop-part.text.items _ c.loop-part-test.false c.loop-part.invariant
