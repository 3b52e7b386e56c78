use Rattle.ls_paths.proofs.Vocabulary.{◌∙◌, ap, not, sym}
use Rattle.ls_paths.proofs.Added.{above-none, fringe-after}
use Rattle.ls_paths.proofs.Written.{none-is, outside-next}
use Rattle.ls_paths.proofs.steps.next_item.Goals as goal

pub outer_fringe-requires : goal.outer_fringe-requires
outer_fringe-requires g c = (g.met.F.Inside.is_family c.args.f.now).small c.args.k c.requires.member

pub returns-then-is_none-clause-value : goal.returns-then-is_none-clause-value
returns-then-is_none-clause-value g c =
    let n = g.F.Inside.item_count c.args.f.now in
    let f = g.F.Inside.members c.args.f.now in
    let small = (g.met.F.Inside.is_family c.args.f.now).small in
    let none = none-is c.next_member.result (c.is_none.ensures ∙ ap not c.if-is_none.true) in
    sym (above-none n f c.args.k c.args.above small (outside-next n c.args.k c.args.outside c.args.above c.next_member.result _ c.requires.outside c.next_member.ensures.value none))

pub returns-clause-value : goal.returns-clause-value
returns-clause-value g c =
    let n = g.F.Inside.item_count c.args.f.now in
    let f = g.F.Inside.members c.args.f.now in
    let small = (g.met.F.Inside.is_family c.args.f.now).small in
    c.next_member-2.ensures.value ∙ fringe-after n f c.args.k c.outer_fringe.result c.args.above small (c.outer_fringe.ensures.value c.requires.member)
