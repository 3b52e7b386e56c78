use Rattle.ls_weight.proofs.Vocabulary.{◌%◌, ◌*◌, ◌+◌, ◌/◌, ◌∙◌, arith, bit_at, eqb, get_or, sym, ℕ}
use Rattle.ls_weight.proofs.Marks.{digits-kept, digits-none, digits-set}
use Rattle.ls_weight.proofs.columns.word_of.Goals as goal
use Rattle.ls_weight.proofs.columns.word_of.Goals.{then-has_digit, else-has_digit}

pub loop-j-init : goal.loop-j-init
loop-j-init c = digits-none _

pub loop-j-preserved : goal.loop-j-preserved
loop-j-preserved c =
    let p = λ (j : ℕ). eqb (bit_at (get_or c.args.bytes.now (c.args.width * (c.args.first + j) + c.args.q / 8) 0) (c.args.q % 8)) 1 in
    elim c.if-has_digit.branch [
      | then-has_digit w ↦ rw w.word-is (digits-set p c.loop-j.j c.loop-j.word c.loop-j-test.true c.loop-j.invariant (sym c.has_digit.ensures ∙ w.if-has_digit.true))
      | else-has_digit w ↦ rw w.word-is (digits-kept p c.loop-j.j c.loop-j.word c.loop-j.invariant (sym c.has_digit.ensures ∙ w.if-has_digit.false))
    ]

pub returns : goal.returns
returns c = λ j l. c.loop-j.invariant.done j (omega arith)
