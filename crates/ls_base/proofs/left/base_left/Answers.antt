use Rattle.ls_base.proofs.Vocabulary.{◌++◌, ◌∙◌, IfOk-weaker, IsInOrder, ap, base-in_order}
use Rattle.ls_base.proofs.Vocabulary.{gained_below, is_among, near, spanned, spanned-in_order}
use Rattle.ls_base.proofs.Vocabulary.{subst, sym}
use Rattle.ls_laws.specs.LeastSets.{IsBelow}
use Rattle.ls_base.proofs.OwnItems.{base-needs}
use Rattle.ls_base.proofs.Gains.{base-left, base-unbroken}
use Rattle.ls_base.proofs.left.base_left.Goals as goal

pub broken_sets-requires-clause-in_order : goal.broken_sets-requires-clause-in_order
broken_sets-requires-clause-in_order c =
    let f = spanned c.args.n c.args.sets.now in
    subst IsInOrder c.requires.base (base-in_order f (spanned-in_order c.args.n c.args.sets.now))

pub broken_sets-requires-clause-needed : goal.broken_sets-requires-clause-needed
broken_sets-requires-clause-needed c =
    let n = c.args.n in
    let sets = c.args.sets.now in
    base-needs (spanned n sets) sets (spanned-in_order n sets) c.requires.base

pub returns-then-not-some_break : goal.returns-then-not-some_break
returns-then-not-some_break c =
    let none = sym c.some_break.ensures ∙ c.if-not-some_break.true in
    IfOk-weaker c.from_slice.result _ _
    (λ v e. base-unbroken c.args.n c.args.sets.now c.args.r.now none c.requires.base ∙ sym e)
    c.from_slice.ensures.items

pub returns : goal.returns
returns c =
    let sets = c.args.sets.now in
    let r = c.args.r.now in
    let staying = c.deref-2.result.now in
    let broken = c.deref-3.result.now in
    let lowest = c.deref-4.result.now in
    let begun = c.in_ok-left.ensures.items ∙ c.deref.ensures.value ∙ sym c.deref-2.ensures.value in
    base-left c.args.n sets staying broken lowest c.put_in_order.new.sets.items r
    (c.deref-2.ensures.value ∙ c.in_ok-staying.ensures)
    (c.deref-3.ensures.value ∙ c.in_ok-broken.ensures)
    (subst (λ l. IsBelow l (near sets r)) (sym c.deref-4.ensures.value) c.in_ok-near.ensures.below)
    c.put_in_order.ensures.in_order
    (λ k. c.put_in_order.ensures.same k
    ∙ ap (λ l. is_among l k) (c.in_ok-push_all_gained.ensures
    ∙ ap (λ l. l ++ gained_below staying broken lowest c.args.n) begun))
    c.requires.base
