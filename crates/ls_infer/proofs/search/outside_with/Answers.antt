use Rattle.ls_infer.proofs.Vocabulary.{◌∙◌, ap, family_sets, has, sym, unwrap_or}
use Rattle.ls_infer.proofs.Outside.{outside-left, outside-same}
use Rattle.ls_infer.proofs.search.outside_with.Goals as goal

pub returns-then-not-has-clause-value : goal.returns-then-not-has-clause-value
returns-then-not-has-clause-value g c = λ a same.
    let n = g.I.Interior.item_count c.args.f.now in
    let f = g.I.Interior.members c.args.f.now in
    same ∙ outside-same n f a c.args.item (family_sets n f (g.met.I.Interior.is_family c.args.f.now)) (ap (λ s. has s c.args.item) (sym same) ∙ sym c.has.ensures ∙ c.if-not-has.true)

pub returns-clause-value : goal.returns-clause-value
returns-clause-value g c = λ a same.
    let n = g.I.Interior.item_count c.args.f.now in
    let f = g.I.Interior.members c.args.f.now in
    outside-left n f a c.args.outside c.empty.result c.unwrap_or.result c.args.item c.interior_without-left.result (family_sets n f (g.met.I.Interior.is_family c.args.f.now))
    same c.empty.ensures c.interior_without-left.ensures.value (λ k s. c.unwrap_or.ensures ∙ ap (λ o. unwrap_or o c.empty-2.result) s)
