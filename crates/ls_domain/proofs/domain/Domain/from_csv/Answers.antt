use Rattle.ls_domain.proofs.Vocabulary.{◌+◌, ◌∙◌, ◌≡◌, BadCsv, Err, IsDomainFault, PLACES, Some, ap, arith, begun-some, common_steps, drop, fields_of, length, map, names_from, names_of_table, slice_get, sym, table_records, take}
use Rattle.ls_domain.proofs.Rows.{record_field, loop-next, loop-bad, loop-fault, loop-end, some_rows, table-begun, even_field-good, even_field-bad}
use Rattle.ls_domain.proofs.domain.Domain.from_csv.Goals as goal

pub returns-then-len-clause-fault : goal.returns-then-len-clause-fault
returns-then-len-clause-fault c =
    let bytes = c.args.bytes.now in
    let vs = c.in_ok-records.records.items in
    let items = c.deref-record-items.result.now in
    let width = length (fields_of c.in-Some.first.now) in
    let front : map fields_of vs ≡ take (PLACES + 1) (table_records bytes) = grind (arith, common_steps) in
    let begun = table-begun bytes vs c.deref.result.now front c.deref.ensures.value c.in-Some.first.now items c.in-Some.ensures.value c.deref-record-items.ensures.value in
    let bad = even_field-bad width (fields_of c.record-item.result) (λ e. c.if-len.true (c.len.ensures ∙ e ∙ sym c.len-in-loop-record.ensures)) in
    loop-bad (record_field width) items c.loop-record.record-index c.record-item.result c.loop-record-test.true c.record-item.is c.loop-record.list (names_of_table bytes) bad (begun ∙ c.loop-record.invariant)
    ∙ ap (λ n. Err (BadCsv (n + 1))) (sym c.len-then-len.ensures.value)

pub returns-in_err-add-clause-fault : goal.returns-in_err-add-clause-fault
returns-in_err-add-clause-fault c =
    let bytes = c.args.bytes.now in
    let vs = c.in_ok-records.records.items in
    let items = c.deref-record-items.result.now in
    let width = length (fields_of c.in-Some.first.now) in
    let front : map fields_of vs ≡ take (PLACES + 1) (table_records bytes) = grind (arith, common_steps) in
    let begun = table-begun bytes vs c.deref.result.now front c.deref.ensures.value c.in-Some.first.now items c.in-Some.ensures.value c.deref-record-items.ensures.value in
    let good = even_field-good width (fields_of c.record-item.result) (sym c.len.ensures ∙ c.if-len.false ∙ c.len-in-loop-record.ensures) in
    let told : IsDomainFault (names_of_table bytes) c.in_err-add.field-0.0 =
    loop-fault (record_field width) items c.loop-record.record-index c.record-item.result c.loop-record-test.true c.record-item.is c.loop-record.list c.first_field.result.now (names_of_table bytes) c.in_err-add.field-0.0 (good ∙ ap Some (sym c.first_field.ensures))
    (begun ∙ c.loop-record.invariant) c.in_err-add.ensures.fault in
    grind (arith, common_steps, told)

pub loop-record-preserved : goal.loop-record-preserved
loop-record-preserved c =
    let items = c.deref-record-items.result.now in
    let width = length (fields_of c.in-Some.first.now) in
    let good = even_field-good width (fields_of c.record-item.result) (sym c.len.ensures ∙ c.if-len.false ∙ c.len-in-loop-record.ensures) in
    c.loop-record.invariant
    ∙ loop-next (record_field width) items c.loop-record.record-index c.record-item.result c.loop-record-test.true c.record-item.is c.loop-record.list c.first_field.result.now (good ∙ ap Some (sym c.first_field.ensures)) c.in_ok-add.ensures.sound
    ∙ ap (λ l. names_from l (map (record_field width) (drop (c.loop-record.record-index + 1) items))) (sym c.in_ok-add.ensures.ok)

pub invariant_of-result : goal.invariant_of-result
invariant_of-result c =
    let items = c.deref-record-items.result.now in
    let some = begun-some items c.in-Some.first.now (c.in-Some.ensures.value ∙ ap (λ l. slice_get l 0) (c.deref.ensures.value ∙ sym c.deref-record-items.ensures.value)) in
    some_rows (record_field (length (fields_of c.in-Some.first.now))) items c.loop-record.record-index c.loop-record.list c.loop-record-test.false c.loop-record.invariant some

pub returns-clause-read : goal.returns-clause-read
returns-clause-read c =
    let bytes = c.args.bytes.now in
    let vs = c.in_ok-records.records.items in
    let items = c.deref-record-items.result.now in
    let front : map fields_of vs ≡ take (PLACES + 1) (table_records bytes) = grind (arith, common_steps) in
    let begun = table-begun bytes vs c.deref.result.now front c.deref.ensures.value c.in-Some.first.now items c.in-Some.ensures.value c.deref-record-items.ensures.value in
    loop-end (record_field (length (fields_of c.in-Some.first.now))) items c.loop-record.record-index c.loop-record.list (names_of_table bytes) c.loop-record-test.false (begun ∙ c.loop-record.invariant)
