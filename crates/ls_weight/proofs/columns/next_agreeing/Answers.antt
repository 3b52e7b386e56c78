use Rattle.ls_weight.proofs.Vocabulary.{◌%◌, ◌*◌, ◌+◌, ◌-◌, ◌/◌, ◌^◌, arith, cases_lt, inl, inr}
use Rattle.std.proofs.Common.{w64}
use Rattle.std.specs.Int.{trailing_zeros}
use Rattle.ls_weight.proofs.Marks.{before-disagree, first-agrees, lowest-from, lowest-whole, none-agree}
use Rattle.ls_weight.proofs.columns.next_agreeing.Goals as goal

pub returns-then-rest-ne0-clause-none : goal.returns-then-rest-ne0-clause-none
returns-then-rest-ne0-clause-none c = λ k a b.
    let from = c.args.from in
    let low = lowest-from c.agreeing.result (from % 64) (omega arith) (omega arith) in
    let within = low.within in
    before-disagree c.args.column.now c.args.right (from / 64) c.agreeing.result (from % 64) (trailing_zeros w64 (c.agreeing.result / 2 ^ (from % 64))) k (k - from) c.agreeing.ensures low (omega arith) (omega arith) (omega arith)

pub returns-then-rest-ne0-clause-first : goal.returns-then-rest-ne0-clause-first
returns-then-rest-ne0-clause-first c = λ l.
    let from = c.args.from in
    let low = lowest-from c.agreeing.result (from % 64) (omega arith) (omega arith) in
    let within = low.within in
    first-agrees c.args.column.now c.args.right (from / 64) c.agreeing.result (from % 64) (trailing_zeros w64 (c.agreeing.result / 2 ^ (from % 64))) (from + trailing_zeros w64 (c.agreeing.result / 2 ^ (from % 64))) c.agreeing.ensures low (omega arith) (omega arith)

pub loop-w-init : goal.loop-w-init
loop-w-init c = λ k a b.
    none-agree c.args.column.now c.args.right (c.args.from / 64) c.agreeing.result (c.args.from % 64) k c.agreeing.ensures (omega arith) (omega arith) (omega arith)

pub returns-then-word-ne0-clause-none : goal.returns-then-word-ne0-clause-none
returns-then-word-ne0-clause-none c = λ k a b.
    let w = c.loop-w.w in
    let word = c.agreeing-word.result in
    let low = lowest-whole word (omega arith) (omega arith) in
    let within = low.within in
    elim (cases_lt k (64 * w)) [
      | inl lt ↦ c.loop-w.invariant k a lt
      | inr ge ↦ before-disagree c.args.column.now c.args.right w word 0 (trailing_zeros w64 word) k (k - 64 * w) c.agreeing-word.ensures low (omega arith) (omega arith) (omega arith)
    ]

pub returns-then-word-ne0-clause-first : goal.returns-then-word-ne0-clause-first
returns-then-word-ne0-clause-first c = λ l.
    let w = c.loop-w.w in
    let word = c.agreeing-word.result in
    let low = lowest-whole word (omega arith) (omega arith) in
    let within = low.within in
    first-agrees c.args.column.now c.args.right w word 0 (trailing_zeros w64 word) (64 * w + trailing_zeros w64 word) c.agreeing-word.ensures low (omega arith) (omega arith)
