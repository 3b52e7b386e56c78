use Rattle.ls_surmise.proofs.Vocabulary.{◌∙◌, ◌≡◌, comparable_in, false, is_some, nothing, rules, sym}
use Rattle.ls_surmise.proofs.Firsts.{first-next}
use Rattle.ls_surmise.proofs.flaws.comparable.Goals as goal

pub loop-q-preserved : goal.loop-q-preserved
loop-q-preserved c =
    let none : is_some c.comparable_in-found.result ≡ false = search rules in
    first-next (comparable_in c.args.clauses.now) c.loop-q.q c.args.n _ c.loop-q-test.true (sym c.comparable_in-found.ensures ∙ nothing c.comparable_in-found.result none) c.loop-q.invariant
