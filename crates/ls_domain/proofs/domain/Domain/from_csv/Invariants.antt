use Rattle.ls_domain.proofs.Vocabulary.{◌≡◌, [], drop, fields_of, length, map, names_from}
use Rattle.ls_domain.proofs.Rows.{record_field}
use Rattle.ls_domain.proofs.domain.Domain.from_csv.Given as goal

abbrev pub invariant-loop-record : goal.invariant-loop-record
invariant-loop-record l =
    names_from [] (map (record_field (length (fields_of l.first))) l.record-items) ≡ names_from l.list (map (record_field (length (fields_of l.first))) (drop l.record-index l.record-items))
