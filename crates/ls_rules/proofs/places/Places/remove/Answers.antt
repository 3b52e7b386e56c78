use Rattle.ls_rules.proofs.Vocabulary.{◌∙◌, PlaceList, ap, arith, lower, lowered, map, with_items_is}
use Rattle.ls_rules.proofs.places.Places.remove.Goals as goal

pub returns : goal.returns
returns c =
    let same = ap (λ (l : PlaceList). lowered c.args.place l.places) c.self.view_is in
    with_items_is c.take_out.new.list c.lower_each.new.list (omega arith)
    ∙ c.lower_each.ensures ∙ ap (map (lower c.args.place)) (c.deref_mut.ensures.value ∙ c.take_out.ensures) ∙ same
