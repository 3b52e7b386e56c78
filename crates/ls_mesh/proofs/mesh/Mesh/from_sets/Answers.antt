use Rattle.std.proofs.Common.{◌∙◌, sym}
use Rattle.std.proofs.lemmas.Result.{err_from_is_err_and}
use Rattle.ls_mesh.proofs.Meant.{uncovered-is, fault-uncovered, fault-left, fault-right, fault-none}
use Rattle.ls_mesh.proofs.mesh.Mesh.from_sets.Goals as goal

pub returns-in-Some-clause-fault : goal.returns-in-Some-clause-fault
returns-in-Some-clause-fault c =
    let told =
    uncovered-is c.args.n c.args.left.now c.args.right.now _ _ _ _ _ _
    c.items_of-left_items.ensures c.items_of-right_items.ensures c.full-all.ensures
    c.union.ensures c.minus.ensures c.least.ensures.value in
    fault-uncovered c.args.n c.args.left.now c.args.right.now c.in-Some.item
    (sym told ∙ c.in-Some.is)

pub returns-in_err-left-clause-fault : goal.returns-in_err-left-clause-fault
returns-in_err-left-clause-fault c =
    let told =
    uncovered-is c.args.n c.args.left.now c.args.right.now _ _ _ _ _ _
    c.items_of-left_items.ensures c.items_of-right_items.ensures c.full-all.ensures
    c.union.ensures c.minus.ensures c.least.ensures.value in
    let p = err_from_is_err_and c.from_residual.result c.from_residual.ensures.1 in
    rw (p.1, p.2)
    (fault-left c.args.n c.args.left.now c.args.right.now c.in_err-left.field-0.0
    (sym told ∙ c.in_default.is) c.in_err-left.ensures.wide)

pub returns-in_err-right-clause-fault : goal.returns-in_err-right-clause-fault
returns-in_err-right-clause-fault c =
    let told =
    uncovered-is c.args.n c.args.left.now c.args.right.now _ _ _ _ _ _
    c.items_of-left_items.ensures c.items_of-right_items.ensures c.full-all.ensures
    c.union.ensures c.minus.ensures c.least.ensures.value in
    let p =
    err_from_is_err_and c.from_residual-in_err-right.result
    c.from_residual-in_err-right.ensures.1 in
    rw (p.1, p.2)
    (fault-right c.args.n c.args.left.now c.args.right.now c.in_err-right.field-0.0
    (sym told ∙ c.in_default.is) c.in_ok-left.ensures.none c.in_err-right.ensures.wide)

pub returns-clause-none : goal.returns-clause-none
returns-clause-none c =
    let told =
    uncovered-is c.args.n c.args.left.now c.args.right.now _ _ _ _ _ _
    c.items_of-left_items.ensures c.items_of-right_items.ensures c.full-all.ensures
    c.union.ensures c.minus.ensures c.least.ensures.value in
    fault-none c.args.n c.args.left.now c.args.right.now (sym told ∙ c.in_default.is)
    c.in_ok-left.ensures.none c.in_ok-right.ensures.none
