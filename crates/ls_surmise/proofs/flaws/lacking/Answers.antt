use Rattle.ls_surmise.proofs.Vocabulary.{◌∙◌, ◌≡◌, false, is_some, lacking_in, nothing, rules, sym}
use Rattle.ls_surmise.proofs.Firsts.{first-next}
use Rattle.ls_surmise.proofs.flaws.lacking.Goals as goal

pub loop-q-preserved : goal.loop-q-preserved
loop-q-preserved c =
    let none : is_some c.lacking_in-found.result ≡ false = search rules in
    first-next (lacking_in c.args.clauses.now) c.loop-q.q c.args.n _ c.loop-q-test.true (sym c.lacking_in-found.ensures ∙ nothing c.lacking_in-found.result none) c.loop-q.invariant
