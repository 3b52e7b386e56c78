use Rattle.std.proofs.Common.{◌∙◌, ◌≤◌, List, [], ap, ap₂, subst, sym}
use Rattle.ls_lists.proofs.Options.{same_Ok}
use Rattle.ls_set.specs.ItemSet.{Items, full, most_items}
use Rattle.ls_theory.specs.Starts.{Clauses}
use Rattle.ls_theory.specs.Compatible.{compat}
use Rattle.ls_theory.specs.Clauses.{all_clauses}
use Rattle.ls_theory.specs.Verdict.{is_learning_space}
use Rattle.ls_laws.specs.Spans.{AreOn}
use Rattle.ls_clauses.proofs.Clauses.{all-small}
use Rattle.ls_files.specs.SurmiseFiles.{surmise_from}
use Rattle.ls_origins.specs.Relations.{clauses_below}
use Rattle.ls_order.proofs.Related.{kept-compat, kept-learning, preorder-surmise}
use Rattle.ls_order.proofs.Surmised.{never-fault, order-again}
use Rattle.ls_order.proofs.relation.Relation.to_surmise.Goals as goal

pub from_clauses-requires-clause-within : goal.from_clauses-requires-clause-within
from_clauses-requires-clause-within c =
    let r = c.args.self.now in
    let lists =
    c.deref.ensures.value ∙ c.in_ok-lists.ensures ∙ ap clauses_below c.rows.ensures.value in
    subst (λ m. AreOn m (all_clauses c.deref.result.now)) (sym c.items.ensures.count)
    (subst (λ (cs : List (List Items)). AreOn r.item_count (all_clauses cs)) (sym lists)
    (all-small r.item_count (clauses_below r.below)
    (preorder-surmise r.item_count r.below c.items.ensures.order.preorder)))

pub returns-in-Ok-clause-clauses : goal.returns-in-Ok-clause-clauses
returns-in-Ok-clause-clauses c =
    let r = c.args.self.now in
    let lists =
    c.deref.ensures.value ∙ c.in_ok-lists.ensures ∙ ap clauses_below c.rows.ensures.value in
    let few = subst (λ m. m ≤ most_items) c.items.ensures.count c.items.ensures.few in
    same_Ok (sym c.in-Ok.ensures.clauses ∙ ap₂ surmise_from c.items.ensures.count lists
    ∙ order-again r.item_count r.below c.items.ensures.order few)

pub returns-in-Ok-clause-family : goal.returns-in-Ok-clause-family
returns-in-Ok-clause-family c =
    let r = c.args.self.now in
    ap₂ (λ m cs. compat m (Clauses cs) []) (c.in-Ok.ensures.item_count ∙ c.items.ensures.count)
    (returns-in-Ok-clause-clauses c)
    ∙ sym (kept-compat r.item_count r.below c.items.ensures.order.preorder)

pub returns-in-Ok-clause-learning : goal.returns-in-Ok-clause-learning
returns-in-Ok-clause-learning c =
    let r = c.args.self.now in
    let order = c.items.ensures.order in
    ap₂ (λ m f. is_learning_space (full m) f)
    (c.in-Ok.ensures.item_count ∙ c.items.ensures.count) (returns-in-Ok-clause-family c)
    ∙ (kept-learning r.item_count r.below order.preorder).1 order.antisymmetric

pub unreachable-requires : goal.unreachable-requires
unreachable-requires c =
    let r = c.args.self.now in
    let lists =
    c.deref.ensures.value ∙ c.in_ok-lists.ensures ∙ ap clauses_below c.rows.ensures.value in
    let few = subst (λ m. m ≤ most_items) c.items.ensures.count c.items.ensures.few in
    let again = ap₂ surmise_from c.items.ensures.count lists
    ∙ order-again r.item_count r.below c.items.ensures.order few in
    never-fault (surmise_from c.items.result c.deref.result.now) (clauses_below r.below)
    c.in-Err.fault again c.in-Err.ensures.fault c.in_default.not-Memory
