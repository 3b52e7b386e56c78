use Rattle.ls_space.proofs.Vocabulary.{◌∙◌, ◌≡◌, IsInOrder, Items, List, ap, base-in_order, graded-of_base, graded_by, needed, spanned-in_order, subst, sym, unions}
use Rattle.ls_base.specs.Bases.{family}
use Rattle.ls_space.proofs.Judging.{needed-base, spanned-space}
use Rattle.ls_space.proofs.gradation.test_base.Goals as goal

pub judge-requires-clause-in_order : goal.judge-requires-clause-in_order
judge-requires-clause-in_order c =
    let b = c.args.b.now in
    subst IsInOrder (c.sets.ensures.base ∙ sym c.sets.ensures.value) (base-in_order (family b) (spanned-in_order b.item_count b.sets))

pub judge-requires-clause-needed : goal.judge-requires-clause-needed
judge-requires-clause-needed c =
    let b = c.args.b.now in
    subst (λ (g : List Items). needed g ≡ g) (c.sets.ensures.base ∙ sym c.sets.ensures.value) (needed-base (family b) (spanned-in_order b.item_count b.sets))

pub returns : goal.returns
returns c =
    let b = c.args.b.now in
    let e = c.sets.ensures.base in
    record { verdict = c.judge.ensures ∙ ap (λ (g : List Items). graded_by g g) c.sets.ensures.value ∙ sym (graded-of_base (unions b.sets) b.item_count b.sets e (spanned-space b.item_count b.sets e)) }
