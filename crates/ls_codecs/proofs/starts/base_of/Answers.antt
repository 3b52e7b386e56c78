use Rattle.ls_codecs.proofs.Vocabulary.{◌∙◌, ◌≡◌, ap, is_same, pointwise, sym, true}
use Rattle.ls_clauses.proofs.BaseCovers.{based-cover}
use Rattle.ls_codecs.proofs.BaseStarts.{same-start}
use Rattle.ls_codecs.proofs.starts.base_of.Goals as goal

pub returns-then-are_same-clause-value : goal.returns-then-are_same-clause-value
returns-then-are_same-clause-value c =
    let sets = c.args.sets.now in
    let same : pointwise is_same c.in-Ok.base.sets sets ≡ true = ap (λ found. pointwise is_same found sets) (sym c.sets.ensures.value) ∙ sym c.are_same.ensures ∙ c.if-are_same.true in
    same-start c.args.n sets c.in-Ok.base.sets c.in-Ok.ensures.based same

pub returns-then-are_same-clause-on : goal.returns-then-are_same-clause-on
returns-then-are_same-clause-on c =
    record { items = c.in-Ok.ensures.item_count; is_start = based-cover c.args.n c.args.sets.now c.in-Ok.base.sets c.requires.within c.in-Ok.ensures.based }
