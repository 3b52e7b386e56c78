use Rattle.ls_fringe.proofs.Vocabulary.{◌&&◌, ◌∙◌, ap, has-outer_fringe, is_among, not, sym, with}
use Rattle.ls_domain.proofs.Numbers.{with-within}
use Rattle.ls_fringe.proofs.telling.is_outer.Goals as goal

pub is_member-requires : goal.is_member-requires
is_member-requires g c = rw c.with.ensures (with-within c.args.k c.args.item _ c.requires.within c.requires.item)

pub returns-then-not-has : goal.returns-then-not-has
returns-then-not-has g c =
    let n = g.F.Inside.item_count c.args.f.now in
    let f = g.F.Inside.members c.args.f.now in
    let small = (g.met.F.Inside.is_family c.args.f.now).small in
    c.is_member.ensures ∙ ap (is_among f) c.with.ensures
    ∙ sym (has-outer_fringe n f small c.args.k c.args.item ∙ ap (λ b. not b && is_among f (with c.args.k c.args.item)) (sym c.has.ensures ∙ c.if-not-has.true))

pub returns-else-not-has : goal.returns-else-not-has
returns-else-not-has g c =
    let n = g.F.Inside.item_count c.args.f.now in
    let f = g.F.Inside.members c.args.f.now in
    let small = (g.met.F.Inside.is_family c.args.f.now).small in
    ap not c.if-not-has.false
    ∙ sym (has-outer_fringe n f small c.args.k c.args.item ∙ ap (λ b. not b && is_among f (with c.args.k c.args.item)) (sym c.has.ensures ∙ c.if-not-has.false))
