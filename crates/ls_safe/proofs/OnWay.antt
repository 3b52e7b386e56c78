-- Passes of a turn, one after another, as code makes them.
use Rattle.std.proofs.Common.{◌<◌, ◌≡◌, true, false, cond, List, [], ◌∷◌, ◌++◌, length, option_map}
use Rattle.std.proofs.Common.{Some, None, refl, sym, ap, ◌∙◌, subst, arith}
use Rattle.std.specs.List.{list_all}
use Rattle.ls_set.specs.ItemSet.{Items, full}
use Rattle.ls_set.specs.Query.{is_good}
use Rattle.ls_theory.specs.Bases.{base, most_base_sets}
use Rattle.ls_theory.specs.Verdict.{is_learning_space}
use Rattle.ls_base.specs.Bases.{BaseState, family}
use Rattle.ls_origins.specs.Safe.{waiting, applied_first, tried, all_tried, first_past}
use Rattle.ls_origins.specs.Safe.{marked_first, marked_settled}
use Rattle.ls_origins.specs.declared.safe_answer.SafeAnswer.{SafeAnswer}
use Rattle.ls_origins.specs.declared.safe_fault.SafeFault.{SafeFault}
use Rattle.ls_origins.specs.declared.safe_fault.SafeFault.TheVariants.{Past}
use Rattle.ls_safe.specs.Turns.{is_over, is_past, unmarked}
use Rattle.ls_safe.specs.Interviews.{IsSafeFaultOf, IsLearningOn, IsOnWay}
use Rattle.ls_safe.specs.Interviews.{past_fault, marks_of, queries_of}
use Rattle.ls_safe.proofs.Turns.{applied-fewer, tried-none, tried-some}
use Rattle.ls_safe.proofs.Marked.{first-kept, marked-applied}
use Rattle.ls_safe.proofs.Marking.{marked-settled-none, marked-settled-some}
use Rattle.ls_safe.proofs.GoneOver.{IsMarked, fault-longer, pass-none}

within-longer : (gs hs : List (List Items)) → past_fault gs ≡ None
    → past_fault (gs ++ hs) ≡ past_fault hs
within-longer [] hs e = refl
within-longer (g ∷ gs) hs e =
    elim (is_past most_base_sets g) as
    (λ b. option_map Past (cond b (Some (length (base g))) (first_past most_base_sets gs)) ≡ None
    → option_map Past (cond b (Some (length (base g))) (first_past most_base_sets (gs ++ hs)))
    ≡ past_fault hs) [
      | true ↦ λ e. cc
      | false ↦ λ e. within-longer gs hs e
    ] e

pub way-begins : (b : BaseState) (answers : List SafeAnswer)
    → is_learning_space (full b.item_count) (family b) ≡ true
    → list_all (is_good b.item_count) (queries_of answers) ≡ true → IsOnWay b answers b answers
way-begins b answers learning good = record {
  learned = record { items = refl; learning = learning };
  good = good;
  marks = refl;
  past = refl;
}

way-marked : (b u t : BaseState) (answers now after : List SafeAnswer) → IsOnWay b answers u now
    → IsMarked u now t after
    → marked_first b.item_count (family u) now ≡ Some (marks_of t after)
way-marked b u t answers now after w p =
    subst (λ m. marked_first m (family u) now ≡ Some (marks_of t after)) w.learned.items p.marks

way-applied : (b u t : BaseState) (answers now after : List SafeAnswer) → IsOnWay b answers u now
    → IsMarked u now t after
    → applied_first b.item_count (family u) (waiting now) ≡ Some (unmarked (marks_of t after))
way-applied b u t answers now after w p =
    marked-applied b.item_count (family u) now
    ∙ ap (option_map unmarked) (way-marked b u t answers now after w p)

pub way-next : (b u t : BaseState) (answers now after : List SafeAnswer) → IsOnWay b answers u now
    → IsMarked u now t after
    → past_fault (tried u.item_count (family u) (waiting now)) ≡ None → IsOnWay b answers t after
way-next b u t answers now after w p few =
    let n = b.item_count in
    let e = way-marked b u t answers now after w p in
    record {
      learned = subst (λ m. IsLearningOn m t) w.learned.items p.learned;
      good =
          ap (list_all (is_good n))
          (first-kept (λ a. a.query) (λ a. refl) n (family u) now (marks_of t after) e)
          ∙ w.good;
      marks = w.marks ∙ marked-settled-some n (marks_of u now) (marks_of t after) e;
      past =
          w.past
          ∙ ap past_fault
          (tried-some n (unmarked (marks_of u now)) (unmarked (marks_of t after))
          (way-applied b u t answers now after w p))
          ∙ within-longer (tried n (family u) (waiting now))
          (all_tried n (unmarked (marks_of t after)))
          (subst (λ m. past_fault (tried m (family u) (waiting now)) ≡ None) w.learned.items few);
    }

pub way-fewer : (b u t : BaseState) (answers now after : List SafeAnswer) → IsOnWay b answers u now
    → IsMarked u now t after → length (waiting after) < length (waiting now)
way-fewer b u t answers now after w p =
    let less = applied-fewer b.item_count (family u) (waiting now) (unmarked (marks_of t after))
    (way-applied b u t answers now after w p) in
    omega arith

-- at the end of the way no answer can be applied, and no trial was past
pub way-ends : (b t : BaseState) (answers after : List SafeAnswer) → IsOnWay b answers t after
    → list_all (is_over b.item_count (family t)) after ≡ true
    → (marked_settled b.item_count (marks_of b answers) ≡ marks_of t after)
    × (past_fault (all_tried b.item_count (unmarked (marks_of b answers))) ≡ None)
way-ends b t answers after w over =
    let n = b.item_count in
    let none = pass-none n (family t) after over in (
      w.marks ∙ marked-settled-none n (marks_of t after) none.0,
      w.past
          ∙ ap past_fault
          (tried-none n (unmarked (marks_of t after))
          (marked-applied n (family t) after ∙ ap (option_map unmarked) none.0))
          ∙ none.1,
    )

pub way-past : (b u : BaseState) (answers now : List SafeAnswer) (e : SafeFault)
    → IsOnWay b answers u now
    → IsSafeFaultOf (past_fault (tried u.item_count (family u) (waiting now))) e
    → IsSafeFaultOf (past_fault (all_tried b.item_count (unmarked (marks_of b answers)))) e
way-past b u answers now e w h =
    subst (λ o. IsSafeFaultOf o e) (sym w.past)
    (fault-longer (tried b.item_count (family u) (waiting now)) _ e
    (subst (λ m. IsSafeFaultOf (past_fault (tried m (family u) (waiting now))) e)
    w.learned.items h))
