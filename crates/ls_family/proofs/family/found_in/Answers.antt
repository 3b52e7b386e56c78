use Rattle.ls_family.proofs.Vocabulary.{◌∙◌, IsFamilyFault, [], ap, arith, common_steps, found_from, lines}
use Rattle.ls_family.proofs.Rows.{read_on, left, left-less, line-good, line-bad}
use Rattle.ls_family.proofs.family.found_in.Goals as goal

pub returns-in_err-take_line-clause-fault : goal.returns-in_err-take_line-clause-fault
returns-in_err-take_line-clause-fault c =
    let names = c.args.d.now in
    let found = c.loop-text.found in
    let row = c.loop-text.row in
    let reading = found_from names [] 1 (lines c.args.bytes.now) in
    let so_far = c.loop-text.invariant.so_far ∙ ap (read_on names found row) c.in-Some.is in
    let told : IsFamilyFault reading c.in_err-take_line.field-0.0 = line-bad names found row c.in-Some.rest.now c.first_line.result.0.now c.first_line.result.1 reading c.read_line.result c.in_err-take_line.field-0.0 c.first_line.ensures so_far c.read_line.ensures c.in_err-take_line.ensures.fault in
    grind (arith, common_steps, told)

pub loop-text-preserved : goal.loop-text-preserved
loop-text-preserved c =
    let names = c.args.d.now in
    let found = c.loop-text.found in
    let row = c.loop-text.row in
    let less = left-less c.in-Some.rest.now c.first_line.result.0.now c.first_line.result.1 c.first_line.ensures in
    record {
      so_far = c.loop-text.invariant.so_far ∙ ap (read_on names found row) c.in-Some.is ∙ line-good names found c.take_line.new.self row c.in-Some.rest.now c.first_line.result.0.now c.first_line.result.1 c.read_line.result c.first_line.ensures c.read_line.ensures c.in_ok-take_line.ensures.ok;
      room = omega (arith, less, c.loop-text.invariant.room, ap left c.in-Some.is);
    }
