use Rattle.std.proofs.Common.{◌+◌, ◌∙◌, List, [], ap, arith, length, refl, replicate}
use Rattle.std.proofs.Common.{subst, sym}
use Rattle.std.proofs.lemmas.Grind.{common_steps}
use Rattle.std.proofs.lemmas.List.{with_items_is}
use Rattle.ls_set.specs.ItemSet.{Items, empty}
use Rattle.ls_files.specs.PairFiles.{IsPairFaultOf, pairs_of_file}
use Rattle.ls_order.specs.Reading.{IsTaken}
use Rattle.ls_order.proofs.Lines.{IsReading, given-many, given-pairs, given-rows, left, left-less}
use Rattle.ls_order.proofs.Lines.{line-bad, line-good}
use Rattle.ls_order.proofs.PairRows.{pairs-none, rows-none}
use Rattle.ls_order.proofs.pair_rows.read_rows.Goals as goal

pub loop-text-init : goal.loop-text-init
loop-text-init c =
    let n = length c.args.d.now in
    record {
      so_far = record {
        pairs = [];
        so_far = refl;
        small = pairs-none n;
        are_rows = rows-none n c.in_ok-rows.rows.items
            (c.in_ok-rows.ensures ∙ ap (λ m. replicate m empty) c.count.ensures.value);
      };
      room = omega arith;
    }

pub returns-in_err-take_line-clause-fault : goal.returns-in_err-take_line-clause-fault
returns-in_err-take_line-clause-fault c =
    let r = c.loop-text.invariant.so_far in
    let e = c.in_err-take_line.field-0.0 in
    let told : IsPairFaultOf (pairs_of_file c.args.d.now c.args.bytes.now) e =
    line-bad c.args.d.now c.args.bytes.now c.first_line.result.0.now c.loop-text.rows.items
    c.loop-text.row c.loop-text.text c.first_line.result.1 c.in-Some.rest c.read_line.result e r
    c.in-Some.is c.first_line.ensures c.read_line.ensures.read
    (c.in_err-take_line.ensures.fault r.pairs) in
    grind (arith, common_steps, told)

pub loop-text-preserved : goal.loop-text-preserved
loop-text-preserved c =
    let names = c.args.d.now in
    let n = length names in
    let rows = c.loop-text.rows in
    let row = c.loop-text.row in
    let r = c.loop-text.invariant.so_far in
    let given = c.deref_mut.result.now in
    let next = c.take_line.new.rows in
    let value = c.deref_mut.ensures.value in
    let taken = c.in_ok-take_line.ensures.taken r.pairs
    (given-pairs n r.pairs given rows.items value r.are_rows r.small)
    (given-rows n r.pairs given rows.items value r.are_rows) in
    let less = left-less c.in-Some.rest.now c.first_line.result.0.now c.first_line.result.1
    c.first_line.ensures in
    record {
      so_far = subst
          (λ (rs : List Items). IsReading names c.args.bytes.now rs (row + 1) c.first_line.result.1)
          (sym (with_items_is rows next
          (c.take_line.ensures.as_many ∙ c.deref_mut.ensures.len)))
          (line-good names c.args.bytes.now c.first_line.result.0.now rows.items next row
          c.loop-text.text c.first_line.result.1 c.in-Some.rest c.read_line.result r c.in-Some.is
          c.first_line.ensures c.read_line.ensures.read
          (subst (λ m. IsTaken m r.pairs row c.read_line.result next)
          (given-many n r.pairs given rows.items value r.are_rows) taken));
      room = omega (arith, less, c.loop-text.invariant.room, ap left c.in-Some.is);
    }
