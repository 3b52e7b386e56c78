use Rattle.ls_weight.proofs.Vocabulary.{◌≡◌, Ratio, Ratios, ap₂, are_ratios, arith, refl, replicate, true}
use Rattle.std.proofs.lemmas.List.{length-replicate}
use Rattle.ls_weight.proofs.KeptSettings.{list_all-replicate}
use Rattle.ls_weight.proofs.settings.Settings.standard.Goals as goal

pub invariant_of-result : goal.invariant_of-result
invariant_of-result c =
    let own : Ratios = record { right = c.odds.result; wrong = c.odds-2.result } in
    let items : c.in_ok-from_elem.field-0.items ≡ replicate c.args.n own = c.in_ok-from_elem.ensures.items_if_clones_equal (λ y e. e) in
    let passes : are_ratios own ≡ true = ap₂ (λ (x y : Ratio). are_ratios (record { right = x; wrong = y })) c.odds.ensures c.odds-2.ensures in
    record {
      few = rw items (omega (arith, length-replicate c.args.n own));
      ratios = rw items (list_all-replicate are_ratios c.args.n own passes);
      limits = refl;
    }
