use Rattle.ls_enum.proofs.Vocabulary.{◌∙◌, sym}
use Rattle.ls_enum.proofs.Successors.{filled-within}
use Rattle.ls_enum.proofs.Filled.{keeping-widest, serving-widest}
use Rattle.ls_enum.proofs.successor.inside_filled.Goals as goal

pub interior-inside-requires : goal.interior-inside-requires
interior-inside-requires g c = rw (c.filled_above.ensures, c.items-n.ensures.count) (filled-within _ _ _ c.requires.small)

-- the interior of the widest member without the item, where it keeps what stood before
pub returns-in-Some-clause-value : goal.returns-in-Some-clause-value
returns-in-Some-clause-value g c =
    let n = g.I.Interior.item_count c.args.f.now in
    let f = g.I.Interior.members c.args.f.now in
    let family = g.met.I.Interior.is_family c.args.f.now in
    let kept = c.keep_before-keep.ensures in
    let served = c.serving_at.ensures.serves f c.args.word c.requires.widest c.requires.serves kept in
    let serves = rw c.in-Some.is at served in
    keeping-widest n f c.args.word c.in-Some.widest_member.member c.keep_before-keep.result c.args.i c.interior_without.result family
    (serving-widest f c.args.word c.args.i c.in-Some.widest_member serves.0 serves.1) (serves.0.1 ∙ sym kept) kept c.interior_without.ensures.value
