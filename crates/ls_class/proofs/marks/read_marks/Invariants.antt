use Rattle.ls_class.proofs.Vocabulary.{◌≡◌, drop, fields_of, is_mark, list_all, right_of, union}
use Rattle.ls_class.proofs.marks.read_marks.Given as goal

-- the items so far and those of the columns to come are those of all
abbrev pub invariant-loop-place : goal.invariant-loop-place
invariant-loop-place l = record {
  marks : list_all is_mark (drop l.place (drop 1 (fields_of l.fields))) ≡ list_all is_mark (drop 1 (fields_of l.fields));
  items : union l.right (right_of (drop l.place l.columns) (drop l.place (drop 1 (fields_of l.fields)))) ≡ right_of l.columns (drop 1 (fields_of l.fields));
}
