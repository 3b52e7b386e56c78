use Rattle.ls_base.proofs.Vocabulary.{spanned, spanned-IsUnionFamily, spanned-in_order}
use Rattle.ls_base.proofs.Spanned.{base-again}
use Rattle.ls_base.proofs.base.Base.spanned_by.Goals as goal

pub limited-requires-clause-base : goal.limited-requires-clause-base
limited-requires-clause-base c =
    let n = c.args.n in
    let sets = c.args.sets.items in
    base-again n (spanned n sets) c.in_ok-needed.needed.items (spanned-in_order n sets) (spanned-IsUnionFamily n sets) (c.in_ok-needed.ensures.base n c.requires.is_on)
