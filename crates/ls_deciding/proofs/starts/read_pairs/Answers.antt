use Rattle.std.proofs.Common.{[], ◌∙◌, ◌≡◌, List, ap, length, sym}
use Rattle.ls_set.specs.{Items}
use Rattle.ls_theory.specs.{base, compat}
use Rattle.ls_theory.specs.Starts.{Clauses}
use Rattle.ls_order.proofs.Related.{order-count}
use Rattle.ls_deciding.proofs.starts.read_pairs.Goals as goal

pub returns-in_ok-to_surmise-in-Ok-clause-number :
    goal.returns-in_ok-to_surmise-in-Ok-clause-number
returns-in_ok-to_surmise-in-Ok-clause-number c =
    let r = c.in-Ok.relation in
    let surmise = c.in_ok-to_surmise-in-Ok.field-0 in
    let made = c.in_ok-to_surmise-in-Ok.ensures in
    let items = made.item_count ∙ c.in-Ok.ensures.item_count in
    sym
    (ap (λ n. length (base (compat n (Clauses surmise.clauses) []))) (sym items)
    ∙ ap (λ (f : List Items). length (base f)) made.family
    ∙ order-count r.item_count r.below c.items.ensures.order ∙ c.in-Ok.ensures.item_count)
