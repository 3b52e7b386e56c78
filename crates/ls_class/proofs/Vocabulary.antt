-- The words that the proofs of this crate cite, passed on from one place.
pub use Rattle.std.proofs.Common.{◌*◌, ◌++◌, ◌+◌, ◌-◌, ◌<◌, ◌==◌, ◌||◌, ◌∙◌, ◌∷◌, ◌≡◌, ◌≢◌, ◌≤◌, All, Bool, Bor, Err, Global, IfErr, IfOk, IsErrAnd, List, None, Ok, Option, Result, Some, String, ℕ, [], add-one, ap, ap₂, arith, cond, count_by, drop, eq-eqb, eqb, eqb-true, false, filter, get_or, inl, inr, length, length-append, length-drop, map, ne_eqb, not, option_and_then, option_map, refl, slice_get, string_bytes, subst, suc, sym, take, true, true≢false, zero}
pub use Rattle.std.proofs.lemmas.Bool.{cases_Bool}
pub use Rattle.std.proofs.lemmas.Bool.Decides.{nat_tests}
pub use Rattle.std.proofs.lemmas.Grind.{common_steps, get_or_default_zero}
pub use Rattle.std.proofs.lemmas.List.{drop_all, length-map, map_more, take_all}
pub use Rattle.std.proofs.lemmas.List.Sums.{count_by_more_no, count_by_more_yes, length-filter}
pub use Rattle.std.proofs.lemmas.Option.{get_or_from_slice_get, none-some, slice_get-get_or, slice_get_past, slice_get_within}
pub use Rattle.std.specs.List.{list_all, list_any}
pub use Rattle.std.specs.Option.{is_some, unwrap_or}
pub use Rattle.std.specs.Str.{IsUtf8, bytes_eq}
pub use Rattle.csv.specs.Records.{fields_of}
unfoldable pub use Rattle.csv.specs.Records.{field_at}
pub use Rattle.ls_domain.proofs.Numbers.{is_name-utf8, is_named-none, is_named-some, item_of-some, items_of-next, name_of-number_of}
pub use Rattle.ls_domain.specs.Domains.{IsDomain, is_name, table_records}
pub use Rattle.ls_domain.specs.Meanings.{is_named, item_of, items_of, number_of}
pub use Rattle.ls_files.specs.ClassTables.{is_mark, is_next_name, is_right, marked, most_class_pupils, right_of}
unfoldable pub use Rattle.ls_files.specs.ClassTables.{class_in, class_of, columns_of, next_row, rows_from}
pub use Rattle.ls_cutting.specs.{Text}
pub use Rattle.ls_lists.proofs.Places.{drop-next, mapped-next, position-lt, take-next}
pub use Rattle.ls_set.proofs.Sets.{members, same_set, union-empty_left, union-empty_right}
pub use Rattle.ls_set.specs.{Items, has}
unfoldable pub use Rattle.ls_set.specs.{full, is_same, union, with}
pub use Rattle.ls_set.specs.declared.item_set.TheConstants.{PLACES}
pub use Rattle.ls_theory.specs.{PupilResult, Row, asked, leader, turn}
unfoldable pub use Rattle.ls_theory.specs.{class_results, replies_in}
pub use Rattle.ls_theory.specs.Settings.{Settings}
pub use Rattle.ls_theory.specs.declared.replay.Replay.{Replay}
pub use Rattle.ls_class.specs.Faults.{IsClassFaultOf, IsRowFault}
pub use Rattle.ls_class.specs.Replays.{ended, line_of, lines_of, replay_from}
