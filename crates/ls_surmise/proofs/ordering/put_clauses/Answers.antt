use Rattle.ls_surmise.proofs.Vocabulary.{◌++◌, ◌∙◌, ◌∷◌, AreOn, Items, List, [], ap, ap₂, in_order, subst, sym}
use Rattle.ls_surmise.proofs.Orderings.{on-at, put-next}
use Rattle.ls_surmise.proofs.ordering.put_clauses.Goals as goal

pub loop-own-preserved : goal.loop-own-preserved
loop-own-preserved c = λ n small.
    let clauses = c.args.clauses.now in
    let i = c.loop-own.own-index in
    let own = c.own-item.result in
    let on = on-at n clauses i own c.loop-own-test.true c.own-item.is small in
    let put = c.in_ok-sets.ensures n (subst (λ (g : List Items). AreOn n g) (sym c.as_slice.ensures) on) ∙ ap (in_order n) c.as_slice.ensures in
    c.in_ok-push.ensures.items ∙ ap₂ (λ xs s. xs ++ s ∷ []) (c.loop-own.invariant n small) put ∙ put-next n clauses i own c.loop-own-test.true c.own-item.is
