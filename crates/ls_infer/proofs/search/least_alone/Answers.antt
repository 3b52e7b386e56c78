use Rattle.ls_infer.proofs.Vocabulary.{◌∙◌, ◌≡◌, ap, arith, empty, empty-within, has, has-empty, has-minus, inl, inr, least-cases, least-none_left, len, len-empty, len-less, len-within, minus, minus-within, refl, same_set, subst, sym, true, true≢false}
use Rattle.ls_infer.proofs.Outside.{with-cases, with-here}
use Rattle.ls_infer.proofs.search.least_alone.Goals as goal

pub returns-in-Some-clause-within : goal.returns-in-Some-clause-within
returns-in-Some-clause-within c = λ i h. elim (with-cases c.empty.result c.in-Some.item i (sym (ap (λ s. has s i) c.with.ensures) ∙ h)) [
  | inl x ↦ absurd (true≢false (sym x ∙ ap (λ s. has s i) c.empty.ensures ∙ has-empty i))
  | inr e ↦ subst (λ j. has c.args.set j ≡ true) (sym e) (least-cases c.args.set c.in-Some.item (sym c.least.ensures.value ∙ c.in-Some.is)).0
]

pub returns-in-None-clause-within : goal.returns-in-None-clause-within
returns-in-None-clause-within c = rw c.empty-in-None.ensures (empty-within c.args.set)

pub returns-in-Some-clause-less : goal.returns-in-Some-clause-less
returns-in-Some-clause-less c =
    let set = c.args.set in
    let here = (least-cases set c.in-Some.item (sym c.least.ensures.value ∙ c.in-Some.is)).0 in
    let one : has c.with.result c.in-Some.item ≡ true = rw c.with.ensures (with-here c.empty.result c.in-Some.item) in
    let less = len-less (minus set c.with.result) set c.in-Some.item (minus-within set c.with.result) (has-minus set c.with.result c.in-Some.item ∙ rw (here, one) refl) here in
    omega arith

pub returns-in-None-clause-less : goal.returns-in-None-clause-less
returns-in-None-clause-less c =
    let set = c.args.set in
    let none : set ≡ empty = same_set set empty (λ i. least-none_left set i (sym c.least.ensures.value ∙ c.in-None.is) ∙ sym (has-empty i)) in
    let size : len set ≡ 0 = rw none len-empty in
    let fewer = len-within (minus set c.empty-in-None.result) set (minus-within set c.empty-in-None.result) in
    omega arith
