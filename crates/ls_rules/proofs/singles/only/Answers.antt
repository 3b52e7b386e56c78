use Rattle.ls_rules.proofs.Vocabulary.{◌∙◌, ◌≡◌, false, is_same, sym, true}
use Rattle.ls_rules.proofs.Alone.{only-one, only-none, only-not}
use Rattle.ls_rules.proofs.singles.only.Goals as goal

pub returns-in_err-i-clause-none : goal.returns-in_err-i-clause-none
returns-in_err-i-clause-none c = λ _ j. only-none c.args.set j (sym c.in_err-i.ensures.value)

pub returns-then-eq-clause-one : goal.returns-then-eq-clause-one
unfolding is_same
returns-then-eq-clause-one c =
    let same : is_same c.args.set c.with.result ≡ true = sym c.eq.ensures ∙ c.if-eq.true in
    only-one c.args.set c.in_ok-i.i (rw (c.with.ensures, c.empty.ensures) at same)

pub returns-else-eq-clause-none : goal.returns-else-eq-clause-none
unfolding is_same
returns-else-eq-clause-none c =
    let other : is_same c.args.set c.with.result ≡ false = sym c.eq.ensures ∙ c.if-eq.false in
    λ _ j. only-not c.args.set c.in_ok-i.i j (sym c.in_ok-i.ensures.value) (rw (c.with.ensures, c.empty.ensures) at other)
