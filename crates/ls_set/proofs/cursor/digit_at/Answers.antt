use Rattle.ls_set.proofs.Vocabulary.{◌%◌, ◌*◌, ◌+◌, ◌/◌, ◌<◌, ◌∙◌, ◌≡◌, ap, arith, eqb, has, rules}
use Rattle.ls_set.proofs.Turned.{turned-digit, low_half, high_half}
use Rattle.ls_set.proofs.cursor.digit_at.Goals as goal
use Rattle.ls_set.proofs.cursor.digit_at.Goals.{then-place-eq0, else-place-eq0}

pub returns : goal.returns
returns c =
    let s = c.args.set in
    let p = c.args.place in
    let v = c.group-pattern.result in
    let few : v < 256 = search rules in
    elim c.if-place-eq0.branch [
      | then-place-eq0 w ↦ rw w.bits-is (turned-digit s p (v % 16) (omega arith) (λ j l.
          let at : 8 * (p / 2) + j ≡ 4 * p + j = omega (arith, w.if-place-eq0) in
          ap (λ x. eqb x 1) (low_half v j l) ∙ c.group-pattern.ensures j (omega arith) ∙ ap (has s) at))
      | else-place-eq0 w ↦ rw w.bits-is (turned-digit s p (v / 16) (omega arith) (λ j l.
          let at : 8 * (p / 2) + (4 + j) ≡ 4 * p + j = omega (arith, w.if-place-eq0) in
          ap (λ x. eqb x 1) (high_half v j) ∙ c.group-pattern.ensures (4 + j) (omega arith) ∙ ap (has s) at))
    ]
