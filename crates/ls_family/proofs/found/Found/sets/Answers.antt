use Rattle.ls_family.proofs.Vocabulary.{◌∙◌, IsInOrder, Items, YieldsList-from_map, YieldsList-from_rest, ap, items_from_collect, keys_of, map-id, rules, subst, sym, tests}
use Rattle.std.proofs.lemmas.Result.{IfOk-weaker}
use Rattle.ls_family.proofs.FoundSets.{in_order-keys}
use Rattle.ls_family.proofs.found.Found.sets.Goals as goal

pub returns-clause-sets : goal.returns-clause-sets
returns-clause-sets c =
    let keys = keys_of c.self.inside.rows.entries in
    let all = items_from_collect c.collect.result c.collect.ensures.ran (YieldsList-from_map _ (λ (s : Items). s) (YieldsList-from_rest keys (c.map.ensures.source ∙ c.keys.ensures.rest)) c.map.ensures.closure (λ x r q k. search (rules, tests))) in
    IfOk-weaker c.collect.result _ _ (λ v e. e ∙ map-id keys ∙ ap keys_of c.self.view_is) all

pub returns-clause-in_order : goal.returns-clause-in_order
returns-clause-in_order c =
    let keys = keys_of c.self.inside.rows.entries in
    let all = items_from_collect c.collect.result c.collect.ensures.ran (YieldsList-from_map _ (λ (s : Items). s) (YieldsList-from_rest keys (c.map.ensures.source ∙ c.keys.ensures.rest)) c.map.ensures.closure (λ x r q k. search (rules, tests))) in
    IfOk-weaker c.collect.result _ _ (λ v e. subst IsInOrder (sym (e ∙ map-id keys)) (in_order-keys keys c.keys.ensures.ordered)) all
