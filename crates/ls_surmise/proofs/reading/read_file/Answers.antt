use Rattle.ls_surmise.proofs.Vocabulary.{◌∙◌, ◌≡◌, None, Ok, Some, ap, is_known, is_some, read_all, read_table, rules, sym, true, value_of, view}
use Rattle.ls_surmise.proofs.Tables.{no_value, no_table, not_known, all_known}
use Rattle.ls_surmise.proofs.reading.read_file.Goals as goal

pub returns-in_default-clause-fault : goal.returns-in_default-clause-fault
returns-in_default-clause-fault c =
    let none : value_of c.args.bytes.now ≡ None = search rules in
    no_value c.args.d.now c.args.bytes.now none

pub returns-then-not-is_table-clause-fault : goal.returns-then-not-is_table-clause-fault
returns-then-not-is_table-clause-fault c =
    let is : value_of c.args.bytes.now ≡ Some (view c.in-Some.value) = search rules in
    no_table c.args.d.now c.args.bytes.now (view c.in-Some.value) is (sym c.is_table.ensures ∙ c.if-not-is_table.true)

pub returns-then-not-is_known-clause-fault : goal.returns-then-not-is_known-clause-fault
returns-then-not-is_known-clause-fault c =
    let is : value_of c.args.bytes.now ≡ Some (view c.in-Some.value) = search rules in
    let table : is_some (read_table (view c.in-Some.value)) ≡ true = search rules in
    not_known c.args.d.now c.args.bytes.now (view c.in-Some.value) is table (sym c.is_known.ensures ∙ c.if-not-is_known.true)

pub returns-clause-read : goal.returns-clause-read
returns-clause-read c =
    let is : value_of c.args.bytes.now ≡ Some (view c.in-Some.value) = search rules in
    let table : is_some (read_table (view c.in-Some.value)) ≡ true = search rules in
    let known : is_known c.args.d.now (view c.in-Some.value) ≡ true = search rules in
    let told : c.in_ok-clauses.clauses.items ≡ read_all c.args.d.now (view c.in-Some.value) = search rules in
    all_known c.args.d.now c.args.bytes.now (view c.in-Some.value) is table known ∙ ap Ok (sym told)
