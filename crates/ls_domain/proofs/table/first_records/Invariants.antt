use Rattle.ls_domain.proofs.Vocabulary.{◌<◌, ◌≡◌, ◌≤◌, List, Reached, Ready, Some, ℕ, default_config, fields_of, length, map, source_of, strip_bom}
use Rattle.csv.specs.declared.parser.State.TheVariants as st
use Rattle.csv.specs.declared.reader.Trim.TheVariants as trim
use Rattle.ls_domain.proofs.table.first_records.Given as goal

-- the records so far were reached, and the reader goes on after them
abbrev pub invariant-loop-record : goal.invariant-loop-record
invariant-loop-record l = record {
  plain : l.record-iterator.rdr.trim ≡ trim.None;
  ready : Ready l.record-iterator.rdr;
  turns : 0 < l.record-iterator.left;
  config : l.record-iterator.rdr.config ≡ default_config;
  rest : List ℕ;
  source : source_of (λ s. Some s.now) l.record-iterator.rdr ≡ Some rest;
  reached : Reached default_config st.StartRecord (strip_bom l.fn.bytes) (map fields_of l.records.items) l.record-iterator.rdr.state rest;
  few : length l.records.items ≤ l.fn.most;
}
