use Rattle.ls_surmise.proofs.Vocabulary.{◌∙◌, ◌≡◌, BaseState, IsSurmiseOf, Items, List, None, Ok, ap, family, first_missing, subst, sym}
use Rattle.ls_surmise.proofs.OfBases.{missing-is, atoms-surmise, surmised-missing, surmised-none}
use Rattle.ls_surmise.proofs.surmise.Surmise.from_base.Goals as goal
use Rattle.ls_surmise.proofs.surmise.Surmise.from_base.Goals.{In_ok-base}

pub returns-in-Some-clause-fault : goal.returns-in-Some-clause-fault
returns-in-Some-clause-fault c =
    let told = missing-is c.args.base.now _ _ _ _ _ c.sets.ensures.base c.items.ensures.count c.full-all.ensures c.inside.ensures c.minus.ensures c.least.ensures.value in
    surmised-missing c.args.base.now c.in-Some.item (sym told ∙ c.in-Some.is)

none_missing : (c : In_ok-base) → first_missing c.args.base.now.item_count c.args.base.now.sets ≡ None
none_missing c =
    let told = missing-is c.args.base.now _ _ _ _ _ c.sets.ensures.base c.items.ensures.count c.full-all.ensures c.inside.ensures c.minus.ensures c.least.ensures.value in
    sym told ∙ c.in_default.is

made : (c : In_ok-base) → IsSurmiseOf c.in_ok-base.base c.in_ok-clauses.clauses.items
made c =
    subst (λ (b : BaseState). IsSurmiseOf b c.in_ok-clauses.clauses.items) (sym c.in_ok-base.ensures)
    (subst (λ (cs : List (List Items)). IsSurmiseOf c.args.base.now cs) (sym c.in_ok-clauses.ensures) (atoms-surmise c.args.base.now c.sets.ensures.base (none_missing c)))

pub invariant_of-result : goal.invariant_of-result
invariant_of-result c = made c

pub returns-clause-clauses : goal.returns-clause-clauses
returns-clause-clauses c = surmised-none c.args.base.now (none_missing c) ∙ ap Ok (sym c.in_ok-clauses.ensures)

pub returns-clause-surmise : goal.returns-clause-surmise
returns-clause-surmise c =
    let is = made c in
    is.surmise

pub returns-clause-members : goal.returns-clause-members
returns-clause-members c =
    let is = made c in
    is.same ∙ ap family c.in_ok-base.ensures
