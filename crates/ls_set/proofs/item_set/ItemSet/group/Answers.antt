use Rattle.ls_set.proofs.Vocabulary.{◌∙◌, and_mask, ap, arith, bit_at, eqb, has}
use Rattle.ls_set.proofs.Lanes.{low_byte}
use Rattle.ls_set.proofs.item_set.ItemSet.group.Goals as goal

pub returns : goal.returns
unfolding has
returns c = λ j l.
    let r = c.digits_from.result in
    ap (λ x. eqb x 1) (ap (λ n. bit_at n j) (and_mask r 8) ∙ low_byte r j l ∙ c.digits_from.ensures.in_lane j (omega arith))
