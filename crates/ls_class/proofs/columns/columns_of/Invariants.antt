use Rattle.ls_class.proofs.Vocabulary.{◌<◌, ◌≡◌, All, PLACES, drop, fields_of, is_named, item_of, items_of, list_all, map, take, true}
use Rattle.ls_class.proofs.columns.columns_of.Given as goal

-- the columns so far are items' names
abbrev pub invariant-loop-column : goal.invariant-loop-column
invariant-loop-column l = record {
  items : l.columns ≡ map (item_of l.domain) (take l.column (drop 1 (fields_of l.header)));
  named : list_all (is_named l.domain) (take l.column (drop 1 (fields_of l.header))) ≡ true;
  set : l.named ≡ items_of l.domain (take l.column (drop 1 (fields_of l.header)));
  places : All (λ i. i < PLACES) l.columns;
}
