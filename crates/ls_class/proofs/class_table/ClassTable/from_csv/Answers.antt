use Rattle.ls_class.proofs.Vocabulary.{◌++◌, ◌+◌, ◌∙◌, ◌∷◌, ◌≡◌, None, Some, [], ap, arith, class_of, columns_of, common_steps, drop, fields_of, length, map, most_class_pupils, next_row, option_map, rows_from, sym, table_records, take}
use Rattle.ls_class.proofs.Rows.{class_of-none, class_of-begun, class_in-bad, class_of-rows, loop-next, loop-fault, loop-end, passed_on}
use Rattle.ls_class.proofs.class_table.ClassTable.from_csv.Goals as goal

pub returns-in_default-clause-fault : goal.returns-in_default-clause-fault
returns-in_default-clause-fault c =
    let vs = c.in_ok-records.records.items in
    let front : map fields_of vs ≡ take (most_class_pupils + 2) (table_records c.args.bytes.now) = grind (arith, common_steps) in
    class_of-none c.args.domain.now c.args.bytes.now vs front (sym (ap length c.deref.ensures.value) ∙ c.in_default.ensures.cases)

pub returns-in_default-found-clause-fault : goal.returns-in_default-found-clause-fault
returns-in_default-found-clause-fault c =
    let vs = c.in_ok-records.records.items in
    let header = c.in-Some.header.now in
    let pupils = c.in-Some.pupils.now in
    let front : map fields_of vs ≡ take (most_class_pupils + 2) (table_records c.args.bytes.now) = grind (arith, common_steps) in
    let columns : None ≡ columns_of c.args.domain.now (fields_of header) = grind (arith, common_steps) in
    class_of-begun c.args.domain.now c.args.bytes.now vs pupils header front (sym c.deref.ensures.value ∙ c.in-Some.ensures.cases.0)
    ∙ class_in-bad c.args.domain.now (fields_of header) (map fields_of pupils) (sym columns)

pub loop-fields-preserved : goal.loop-fields-preserved
loop-fields-preserved c =
    let columns = c.in-Some-found.columns in
    let next : option_map (λ row. c.loop-fields.table ++ row ∷ []) (next_row columns c.loop-fields.table (fields_of c.fields-item.result)) ≡ Some c.add.new.self = grind (arith, common_steps) in
    c.loop-fields.invariant ∙ rw c.columns.view_is (loop-next columns c.in-Some.pupils.now c.loop-fields.fields-index c.fields-item.result c.loop-fields-test.true c.fields-item.is c.loop-fields.table c.add.new.self next)

pub returns-in_err-add-clause-fault : goal.returns-in_err-add-clause-fault
returns-in_err-add-clause-fault c =
    let names = c.args.domain.now in
    let vs = c.in_ok-records.records.items in
    let header = c.in-Some.header.now in
    let pupils = c.in-Some.pupils.now in
    let columns = c.in-Some-found.columns in
    let front : map fields_of vs ≡ take (most_class_pupils + 2) (table_records c.args.bytes.now) = grind (arith, common_steps) in
    let found : Some columns ≡ columns_of names (fields_of header) = grind (arith, common_steps) in
    let all = class_of-rows names c.args.bytes.now vs pupils header columns front (sym c.deref.ensures.value ∙ c.in-Some.ensures.cases.0) found in
    let so_far : rows_from columns [] (map fields_of pupils) ≡ rows_from columns c.loop-fields.table (map fields_of (drop c.loop-fields.fields-index pupils)) = rw c.columns.view_is at c.loop-fields.invariant in
    let fault = loop-fault columns pupils c.loop-fields.fields-index c.fields-item.result c.loop-fields-test.true c.fields-item.is c.loop-fields.table (class_of names c.args.bytes.now) c.in_err-add.field-0.0 (all ∙ so_far) c.in_err-add.ensures.fault in
    passed_on (class_of names c.args.bytes.now) c.from_residual-in_err-add.result c.in_err-add.field-0.0 c.from_residual-in_err-add.ensures.1 fault

pub returns-clause-read : goal.returns-clause-read
returns-clause-read c =
    let names = c.args.domain.now in
    let vs = c.in_ok-records.records.items in
    let header = c.in-Some.header.now in
    let pupils = c.in-Some.pupils.now in
    let columns = c.in-Some-found.columns in
    let front : map fields_of vs ≡ take (most_class_pupils + 2) (table_records c.args.bytes.now) = grind (arith, common_steps) in
    let found : Some columns ≡ columns_of names (fields_of header) = grind (arith, common_steps) in
    let all = class_of-rows names c.args.bytes.now vs pupils header columns front (sym c.deref.ensures.value ∙ c.in-Some.ensures.cases.0) found in
    let so_far : rows_from columns [] (map fields_of pupils) ≡ rows_from columns c.loop-fields.table (map fields_of (drop c.loop-fields.fields-index pupils)) = rw c.columns.view_is at c.loop-fields.invariant in
    all ∙ so_far ∙ loop-end columns pupils c.loop-fields.fields-index c.loop-fields.table (omega (arith, c.loop-fields-test.false))
