use Rattle.ls_surmise.proofs.Vocabulary.{◌∙◌, IsSurmiseFaultOf, Ok, ap, arith, common_steps, surmise_from, sym}
use Rattle.ls_surmise.proofs.Files.{fault-from, of_flaw, of_none, made, wide-fault}
use Rattle.ls_surmise.proofs.Orderings.{searched}
use Rattle.ls_surmise.proofs.FaultItems.{flaw-items}
use Rattle.ls_surmise.proofs.surmise.Surmise.from_clauses.Goals as goal

pub flaw-requires-clause-in_order : goal.flaw-requires-clause-in_order
flaw-requires-clause-in_order c =
    searched c.args.n c.args.clauses.now c.deref.result.now (c.deref.ensures.value ∙ c.in-Ok.ensures c.args.n c.requires.within) c.requires.within

pub returns-in-Some-clause-fault : goal.returns-in-Some-clause-fault
returns-in-Some-clause-fault c = fault-from _ c.in-Some.fault (of_flaw c.args.n c.args.clauses.now c.in-Some.fault (sym c.flaw.ensures ∙ c.in-Some.is))

pub returns-in-Some-clause-items : goal.returns-in-Some-clause-items
returns-in-Some-clause-items c = flaw-items c.args.n c.args.clauses.now c.requires.within c.in-Some.fault (sym c.flaw.ensures ∙ c.in-Some.is)

pub returns-in_err-base-clause-fault : goal.returns-in_err-base-clause-fault
returns-in_err-base-clause-fault c =
    let told : IsSurmiseFaultOf (surmise_from c.args.n c.args.clauses.now) c.in_err-base.field-0.0 =
    wide-fault c.args.n c.args.clauses.now c.in_err-base.field-0.0 (sym c.flaw.ensures ∙ c.in_default-flaw.is) c.in_err-base.ensures.fault in
    grind (arith, common_steps, told)

pub invariant_of-result : goal.invariant_of-result
invariant_of-result c =
    made c.args.n c.args.clauses.now c.in-Ok.ordered.items c.in_ok-base.base c.requires.items c.requires.within (sym c.flaw.ensures ∙ c.in_default-flaw.is)
    c.in_ok-base.ensures.item_count c.in_ok-base.ensures.members c.in_ok-base.ensures.is_base c.in-Ok.ensures

pub returns-clause-clauses : goal.returns-clause-clauses
returns-clause-clauses c =
    of_none c.args.n c.args.clauses.now (sym c.flaw.ensures ∙ c.in_default-flaw.is) c.in_ok-base.ensures.few ∙ ap Ok (sym (c.in-Ok.ensures c.args.n c.requires.within))

pub returns-clause-surmise : goal.returns-clause-surmise
returns-clause-surmise c =
    let is =
    made c.args.n c.args.clauses.now c.in-Ok.ordered.items c.in_ok-base.base c.requires.items c.requires.within (sym c.flaw.ensures ∙ c.in_default-flaw.is)
    c.in_ok-base.ensures.item_count c.in_ok-base.ensures.members c.in_ok-base.ensures.is_base c.in-Ok.ensures in
    is.surmise
