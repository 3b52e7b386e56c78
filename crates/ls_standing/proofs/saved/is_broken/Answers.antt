use Rattle.ls_standing.proofs.Vocabulary.{◌∙◌, Items, ap, arith, full, good-from, has, interior, minus, minus-within}
use Rattle.ls_standing.proofs.Saving.{has-greatest}
use Rattle.ls_standing.proofs.saved.is_broken.Goals as goal

pub interior-requires : goal.interior-requires
interior-requires g c = rw (c.minus-apart.ensures, c.full.ensures, c.items.ensures.count) (minus-within (full (g.I.Interior.item_count c.args.f.now)) c.args.query.now.a)

pub has-requires : goal.has-requires
has-requires g c = let l = (good-from (g.I.Interior.item_count c.args.f.now) c.args.query.now c.requires).item in omega (arith, l, c.items.ensures.count, c.items.ensures.few)

pub returns : goal.returns
returns g c =
    let n = g.I.Interior.item_count c.args.f.now in
    let f = g.I.Interior.members c.args.f.now in
    let r = c.args.query.now in
    let apart = c.minus-apart.ensures ∙ ap (λ (s : Items). minus s r.a) (c.full.ensures ∙ ap full c.items.ensures.count) in
    c.has.ensures ∙ ap (λ (s : Items). has s r.q) (c.interior.ensures.value ∙ ap (interior f) apart) ∙ has-greatest n f r (g.met.I.Interior.is_family c.args.f.now).small (good-from n r c.requires).item
