use Rattle.ls_base.proofs.Vocabulary.{◌∙◌, ap, arith, cut, length, length-map, map, nat_le, rules, with_items_is}
use Rattle.std.proofs.lemmas.Fn.{filter_same}
use Rattle.ls_base.proofs.trail.give_up_after.Goals as goal

pub returns : goal.returns
returns c =
    let made = c.cut_all.ensures ∙ ap (map (cut c.args.count)) c.deref_mut.ensures.value in
    with_items_is c.retain.new.self c.cut_all.new.entries (omega (arith, ap length made, length-map c.retain.new.self.items (cut c.args.count)))
    ∙ made
    ∙ ap (map (cut c.args.count)) (filter_same _ (λ e. nat_le e.first c.args.count) _ (λ p b f e. search rules) _ _ c.retain.ensures.filtered)
