use Rattle.ls_surmise.proofs.Vocabulary.{◌<◌, ◌∙◌, ◌≡◌, Items, List, clauses_of, comparable_at, false, is_some, length, nothing, rules, subst, sym}
use Rattle.ls_surmise.proofs.Firsts.{first-next}
use Rattle.ls_surmise.proofs.flaws.first_comparable.Goals as goal

pub loop-i-preserved : goal.loop-i-preserved
loop-i-preserved c =
    let none : is_some c.comparable_at-found.result ≡ false = search rules in
    let below = subst (λ (own : List Items). c.loop-i.i < length own) c.clauses_of-i-end.ensures c.loop-i-test.true in
    first-next (comparable_at c.args.clauses.now c.args.q) c.loop-i.i (length (clauses_of c.args.clauses.now c.args.q)) _ below (sym c.comparable_at-found.ensures ∙ nothing c.comparable_at-found.result none) c.loop-i.invariant
