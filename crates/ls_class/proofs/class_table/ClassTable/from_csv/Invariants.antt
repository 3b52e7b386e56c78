use Rattle.ls_class.proofs.Vocabulary.{◌≡◌, [], drop, fields_of, map, rows_from}
use Rattle.ls_class.proofs.class_table.ClassTable.from_csv.Given as goal

-- the rows so far and those of the records to come are those of all
abbrev pub invariant-loop-fields : goal.invariant-loop-fields
invariant-loop-fields l = rows_from l.columns-inside.items.items [] (map fields_of l.pupils) ≡ rows_from l.columns-inside.items.items l.table (map fields_of (drop l.fields-index l.pupils))
