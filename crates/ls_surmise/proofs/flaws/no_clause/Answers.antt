use Rattle.ls_surmise.proofs.Vocabulary.{◌==◌, ◌∙◌, ◌≡◌, Items, List, ap, clauses_of, false, length, rules, sym}
use Rattle.ls_surmise.proofs.Firsts.{found-next}
use Rattle.ls_surmise.proofs.flaws.no_clause.Goals as goal

pub loop-q-preserved : goal.loop-q-preserved
loop-q-preserved c =
    let some : (length c.clauses_of.result.now == 0) ≡ false = search rules in
    found-next (λ q. length (clauses_of c.args.clauses.now q) == 0) c.loop-q.q c.args.n _ c.loop-q-test.true (ap (λ (own : List Items). length own == 0) (sym c.clauses_of.ensures) ∙ some) c.loop-q.invariant
