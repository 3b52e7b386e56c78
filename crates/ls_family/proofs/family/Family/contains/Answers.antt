use Rattle.ls_family.proofs.Vocabulary.{◌∙◌, IsInOrder, ap, is_among, order_of, rules, subst, sym}
use Rattle.std.proofs.lemmas.Fn.{always_returns_same}
use Rattle.ls_clauses.proofs.Lookups.{found-by-halves}
use Rattle.ls_family.proofs.family.Family.contains.Goals as goal

pub returns : goal.returns
returns c =
    let told = c.binary_search_by.ensures.position (λ t. order_of t c.args.s) (always_returns_same _ _ _ (λ a r g h. search rules)) in
    let order = subst IsInOrder (sym c.deref.ensures.value) c.self.invariant.in_order in
    c.is_ok.ensures.value
    ∙ found-by-halves c.deref.result.now c.args.s c.binary_search_by.result order c.binary_search_by.ensures.bound told
    ∙ ap (λ sets. is_among sets c.args.s) c.deref.ensures.value
    ∙ ap (λ f. is_among f.sets c.args.s) c.self.view_is
