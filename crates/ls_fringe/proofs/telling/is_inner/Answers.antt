use Rattle.ls_fringe.proofs.Vocabulary.{◌&&◌, ◌∙◌, ap, has-inner_fringe, is_among, sym, without, without-within}
use Rattle.ls_fringe.proofs.Chosen.{inner-found}
use Rattle.ls_fringe.proofs.telling.is_inner.Goals as goal

pub is_member-requires : goal.is_member-requires
is_member-requires g c = rw c.without-rest.ensures (λ i h. c.requires.within i (without-within c.args.k c.args.item i h))

pub returns-then-member : goal.returns-then-member
returns-then-member g c =
    let n = g.F.Inside.item_count c.args.f.now in
    let f = g.F.Inside.members c.args.f.now in
    let family = g.met.F.Inside.is_family c.args.f.now in
    c.is_some.ensures ∙ inner-found n f c.args.k c.without-rest.result c.args.item c.inside_without.result family c.without-rest.ensures c.requires.item (c.inside_without.ensures.value (sym c.requires.member ∙ c.if-member.true))

pub returns-else-member : goal.returns-else-member
returns-else-member g c =
    let f = g.F.Inside.members c.args.f.now in
    c.is_member.ensures ∙ ap (is_among f) c.without-rest.ensures
    ∙ sym (has-inner_fringe f c.args.k c.args.item ∙ ap (λ b. b && is_among f (without c.args.k c.args.item)) c.requires.item)
