use Rattle.ls_base.proofs.Vocabulary.{◌∙◌, ◌≤◌, IsPastOf, Items, List, Ok, ap, base, err_from_is_err_and, length, most_base_sets, refl, spanned, subst, sym}
use Rattle.ls_base.proofs.Given.{first_missing-is, based-missing, based-base, IsBaseFault-past}
use Rattle.ls_base.proofs.base.Base.from_sets.Goals as goal

pub returns-in-Some-clause-fault : goal.returns-in-Some-clause-fault
returns-in-Some-clause-fault c =
    let told = first_missing-is c.args.n c.args.sets.now _ _ _ _ c.requires.is_on c.full-all.ensures c.union_within.ensures c.minus.ensures c.least.ensures.value in
    based-missing c.args.n c.args.sets.now c.in-Some.item (sym told ∙ c.in-Some.is)

pub returns-in_err-spanned_by-clause-fault : goal.returns-in_err-spanned_by-clause-fault
returns-in_err-spanned_by-clause-fault c =
    let n = c.args.n in
    let p = err_from_is_err_and c.from_residual-in_err-spanned_by.result c.from_residual-in_err-spanned_by.ensures.1 in
    let told = first_missing-is n c.args.sets.now _ _ _ _ c.requires.is_on c.full-all.ensures c.union_within.ensures c.minus.ensures c.least.ensures.value in
    let past = subst (λ (g : List Items). IsPastOf (base (spanned n g)) c.in_err-spanned_by.field-0.0) c.in_ok-given.ensures.items c.in_err-spanned_by.ensures.past in
    rw (p.1, p.2) (IsBaseFault-past n c.args.sets.now (base (spanned n c.args.sets.now)) c.in_err-spanned_by.field-0.0 (sym told ∙ c.in_default.is) refl past)

pub returns-clause-based : goal.returns-clause-based
returns-clause-based c =
    let n = c.args.n in
    let told = first_missing-is n c.args.sets.now _ _ _ _ c.requires.is_on c.full-all.ensures c.union_within.ensures c.minus.ensures c.least.ensures.value in
    let few = subst (λ (g : List Items). length (base (spanned n g)) ≤ most_base_sets) c.in_ok-given.ensures.items c.in_ok-spanned_by.ensures.few in
    based-base n c.args.sets.now (base (spanned n c.args.sets.now)) (sym told ∙ c.in_default.is) refl few
    ∙ ap (λ (g : List Items). Ok (base (spanned n g))) (sym c.in_ok-given.ensures.items) ∙ ap Ok (sym c.in_ok-spanned_by.ensures.sets)
