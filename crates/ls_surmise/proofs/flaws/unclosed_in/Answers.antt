use Rattle.ls_surmise.proofs.Vocabulary.{◌<◌, ◌∙◌, ◌≡◌, Items, List, clauses_of, false, is_some, length, nothing, rules, subst, sym, unclosed_at}
use Rattle.ls_surmise.proofs.Firsts.{first-next}
use Rattle.ls_surmise.proofs.flaws.unclosed_in.Goals as goal

pub loop-j-preserved : goal.loop-j-preserved
loop-j-preserved c =
    let none : is_some c.unclosed_at-found.result ≡ false = search rules in
    let below = subst (λ (own : List Items). c.loop-j.j < length own) c.clauses_of-j-end.ensures c.loop-j-test.true in
    first-next (unclosed_at c.args.clauses.now c.args.q) c.loop-j.j (length (clauses_of c.args.clauses.now c.args.q)) _ below (sym c.unclosed_at-found.ensures ∙ nothing c.unclosed_at-found.result none) c.loop-j.invariant
