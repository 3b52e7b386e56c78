use Rattle.ls_infer.proofs.Vocabulary.{◌&&◌, ◌∙◌, IsIn, and_assoc, ap, asked_of, blocks, closure, forces, full, has, is_good, list_any, not, subst, sym}
use Rattle.ls_infer.proofs.Searching.{outside-good}
use Rattle.ls_infer.proofs.search.Search.open_items.Goals as goal

pub returns-clause-open : goal.returns-clause-open
returns-clause-open g c q =
    let n = g.I.Interior.item_count c.args.f.now in
    let f = g.I.Interior.members c.args.f.now in
    let b = c.args.walk.now.blocks in
    let a = c.args.walk.now.set in
    let rest = list_any (forces (asked_of a q)) c.args.standing.now in
    let closed = closure (full n) f a in
    c.unforced.ensures q
    ∙ ap (λ s. has c.outside-outside.result q && not (list_any (forces (asked_of s q)) c.args.standing.now)) c.set.ensures.set
    ∙ ap (λ s. has s q && not rest) c.outside-outside.ensures.value
    ∙ ap (λ u. u && not rest) (outside-good n b.largest f a q (subst (λ m. IsIn a (blocks m b.largest)) (sym c.requires.items) c.requires.set))
    ∙ and_assoc (is_good n (asked_of a q)) (not (has closed q)) (not rest)
