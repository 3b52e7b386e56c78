use Rattle.ls_surmise.proofs.Vocabulary.{◌∙◌, ◌≡◌, false, is_some, nothing, rules, sym, unclosed_in}
use Rattle.ls_surmise.proofs.Firsts.{first-next}
use Rattle.ls_surmise.proofs.flaws.unclosed.Goals as goal

pub loop-q-preserved : goal.loop-q-preserved
loop-q-preserved c =
    let none : is_some c.unclosed_in-found.result ≡ false = search rules in
    first-next (unclosed_in c.args.clauses.now) c.loop-q.q c.args.n _ c.loop-q-test.true (sym c.unclosed_in-found.ensures ∙ nothing c.unclosed_in-found.result none) c.loop-q.invariant
