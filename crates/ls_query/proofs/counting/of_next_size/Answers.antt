use Rattle.ls_query.proofs.Vocabulary.{◌*◌, ◌+◌, ◌-◌, ◌/◌, ◌≤◌, ℕ, arith}
use Rattle.std.proofs.Math.Nat.{div-le_self, mul-le-mul_left}
use Rattle.ls_query.proofs.Binomials.{choose-next}
use Rattle.ls_query.proofs.counting.of_next_size.Goals as goal

small : (x d s n p : ℕ) → d ≤ n → n ≤ p → x * d / s ≤ x * p
small x d s n p l m =
    let h : x * d / s ≤ x * d = div-le_self (x * d) s in
    let g : x * d ≤ x * p = mul-le-mul_left x (omega arith) in
    omega (arith, h, g)

pub returns-clause-value : goal.returns-clause-value
returns-clause-value c = rw (c.saturating_sub.ensures, c.requires.sets) (choose-next c.args.n c.args.size)

pub returns-clause-small : goal.returns-clause-small
returns-clause-small c = rw c.saturating_sub.ensures (small c.args.of_size (c.args.n - c.args.size) (c.args.size + 1) c.args.n _ (omega arith) c.requires.items)
