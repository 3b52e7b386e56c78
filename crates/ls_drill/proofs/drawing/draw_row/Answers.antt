use Rattle.ls_drill.proofs.Vocabulary.{◌++◌, ◌+◌, ◌<◌, ◌∙◌, ◌≤◌, List, ℕ, after_words, ap, append-nil, drawn, row, sym}
use Rattle.ls_drill.proofs.DrawnPairs.{row_from, next-yes, next-no, next-generator, no-words, no-pairs}
use Rattle.ls_drill.proofs.drawing.draw_row.Goals as goal
use Rattle.ls_drill.proofs.drawing.draw_row.Goals.{then-next_word-eq0+in_ok-push, else-next_word-eq0}

pub loop-j-preserved : goal.loop-j-preserved
loop-j-preserved c =
    let n = c.args.n in
    let i = c.args.i in
    let j = c.loop-j.j in
    let all = c.args.pairs.now.items ++ drawn c.args.generator.now (row n i) in
    let lt : j < n = c.loop-j-test.true in (
      elim c.if-next_word-eq0.branch [
        | then-next_word-eq0+in_ok-push w ↦ ap (λ (l : List (ℕ × ℕ)). l ++ drawn c.next_word.new.self (row_from n i (j + 1))) (ap (λ v. v.items) w.pairs-is ∙ w.in_ok-push.ensures.items)
            ∙ next-yes n i j c.next_word.result c.loop-j.generator c.next_word.new.self c.loop-j.pairs.items all lt c.next_word.ensures w.if-next_word-eq0.true c.loop-j.invariant.0
        | else-next_word-eq0 w ↦ ap (λ (l : List (ℕ × ℕ)). l ++ drawn c.next_word.new.self (row_from n i (j + 1))) (ap (λ v. v.items) w.pairs-is)
            ∙ next-no n i j c.next_word.result c.loop-j.generator c.next_word.new.self c.loop-j.pairs.items all lt c.next_word.ensures w.if-next_word-eq0.false c.loop-j.invariant.0
      ],
      next-generator n i j c.next_word.result c.loop-j.generator c.next_word.new.self (after_words (row n i) c.args.generator.now) lt c.next_word.ensures c.loop-j.invariant.1,
    )

pub returns-clause-pairs : goal.returns-clause-pairs
returns-clause-pairs c =
    let le : c.args.n ≤ c.loop-j.j = c.loop-j-test.false in
    sym (append-nil c.loop-j.pairs.items) ∙ ap (λ (l : List (ℕ × ℕ)). c.loop-j.pairs.items ++ l) (sym (no-pairs c.args.n c.args.i c.loop-j.j c.loop-j.generator le)) ∙ c.loop-j.invariant.0

pub returns-clause-generator : goal.returns-clause-generator
returns-clause-generator c =
    let le : c.args.n ≤ c.loop-j.j = c.loop-j-test.false in
    sym (no-words c.args.n c.args.i c.loop-j.j c.loop-j.generator le) ∙ c.loop-j.invariant.1
