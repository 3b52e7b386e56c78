use Rattle.ls_weight.proofs.Vocabulary.{◌∙◌, Ratios, ℕ, ap, arith, max, rules, tests, unwrap_or}
use Rattle.std.proofs.lemmas.Iterator.{YieldsList-from_slice, YieldsList-from_map}
use Rattle.std.proofs.lemmas.Iterator.Consumers.{reduce_from_yields_List}
use Rattle.std.proofs.lemmas.List.Folds.{max_of_map}
use Rattle.ls_weight.proofs.Heavy.{greatest-fold}
use Rattle.ls_weight.proofs.settings.greatest.Goals as goal

pub returns : goal.returns
returns c =
    let ratios = c.args.ratios.now in
    let first : Ratios → ℕ = λ r. max r.right.a r.wrong.a in
    c.unwrap_or.ensures
    ∙ ap (λ o. unwrap_or o 0) (reduce_from_yields_List _ c.map.result _ c.max.ensures.ran (YieldsList-from_map _ first (YieldsList-from_slice ratios cc) c.map.ensures.closure (λ x b q k. search (rules, tests))))
    ∙ max_of_map first ratios
    ∙ greatest-fold 0 ratios
    ∙ omega arith
