use Rattle.std.proofs.Common.{arith, refl}
use Rattle.std.proofs.lemmas.Grind.{common_steps}
use Rattle.std.proofs.Common.{length}
use Rattle.ls_files.specs.PairFiles.{IsPairFaultOf, relation_of}
use Rattle.ls_order.proofs.Lines.{given-pairs, given-rows}
use Rattle.ls_order.proofs.Texts.{made-fault, made-ok, relation-fault}
use Rattle.ls_order.proofs.relation.Relation.from_text.Goals as goal

pub returns-in_err-rows-clause-fault : goal.returns-in_err-rows-clause-fault
returns-in_err-rows-clause-fault c =
    let e = c.in_err-rows.field-0.0 in
    let told : IsPairFaultOf (relation_of c.args.d.now c.args.bytes.now) e =
    relation-fault c.args.d.now c.args.bytes.now e c.in_err-rows.ensures.fault in
    grind (arith, common_steps, told)

pub returns-clause-below : goal.returns-clause-below
returns-clause-below c =
    let names = c.args.d.now in
    let rows = c.in_ok-rows.rows.items in
    let r = c.in_ok-rows.ensures.read in
    made-ok names c.args.bytes.now (length rows) r.pairs c.from_rows.result r.are_rows.each_item
    r.read
    (c.from_rows.ensures.below r.pairs
    (given-pairs (length names) r.pairs rows rows refl r.are_rows r.small)
    (given-rows (length names) r.pairs rows rows refl r.are_rows))

pub returns-clause-fault : goal.returns-clause-fault
returns-clause-fault c =
    let names = c.args.d.now in
    let rows = c.in_ok-rows.rows.items in
    let r = c.in_ok-rows.ensures.read in
    made-fault names c.args.bytes.now (length rows) r.pairs c.from_rows.result r.are_rows.each_item
    r.read
    (c.from_rows.ensures.fault r.pairs
    (given-pairs (length names) r.pairs rows rows refl r.are_rows r.small)
    (given-rows (length names) r.pairs rows rows refl r.are_rows))
