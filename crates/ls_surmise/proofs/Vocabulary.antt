-- The words that the proofs of this crate cite, passed on from one place.
pub use Rattle.std.proofs.Common.{◌&&◌, ◌++◌, ◌+◌, ◌-◌, ◌<◌, ◌==◌, ◌||◌, ◌∙◌, ◌∷◌, ◌≡◌, ◌≤◌, Bool, Equal, Err, Global, Greater, IfOk, IsUtf8, Less, List, None, Ok, Option, Ordering, Result, Some, String, ℕ, [], ap, append-nil, append_assoc, ap₂, arith, bytes_eq, codes, cond, drop, drop-cons, false, filter, find, get_or, inl, inr, is_eq, is_some, le-ltb, length, length-drop, lt-ltb, ltb, ltb-true, map, max, nat_cmp, not, option_and_then, option_map, refl, rules, string_bytes, subst, suc, sym, take, true, true≢false, unwrap_or, zero}
pub use Rattle.std.proofs.lemmas.Bool.{and_from, and_parts, cases_eq, cases_order, false_from_ne_true, not-true, or_cases, or_right}
pub use Rattle.std.proofs.lemmas.Bool.Decides.{nat_tests}
pub use Rattle.std.proofs.lemmas.Cmp.{nat_list_cmp_total, nat_list_eq_equiv}
pub use Rattle.std.proofs.lemmas.Grind.{common_steps}
pub use Rattle.std.proofs.lemmas.List.{drop-drop, drop_all, drop_more, get_or-drop, get_or_default, get_or_read, map-append, map_push, take_all, take_more}
pub use Rattle.std.proofs.lemmas.Map.Text.{is_eq-slice_cmp}
pub use Rattle.std.proofs.lemmas.Slice.Eq.{bytes_eq-Decides}
pub use Rattle.std.proofs.lemmas.Str.{IsUtf8-append, IsUtf8-from_is_utf8, is_utf8-from_IsUtf8}
pub use Rattle.std.specs.Cmp.Lexicographic.{slice_cmp}
pub use Rattle.std.specs.List.{All, AllByRecursion, list_all, list_any}
unfoldable pub use Rattle.std.specs.List.{IsDistinct}
pub use Rattle.std.specs.Map.{lookup}
pub use Rattle.std.specs.Option.{option_map_or, option_or}
pub use Rattle.std.specs.Ordering.{match_ordering, ordering_reverse}
pub use Rattle.std.specs.Prelude.{⊤}
pub use Rattle.std.specs.Result.{result_ok}
pub use Rattle.json.proofs.Printed.Utf8.{IsUtf8-are_ascii, IsUtf8-quoted}
pub use Rattle.ls_base.specs.Bases.{BaseState, family}
pub use Rattle.ls_clauses.proofs.Clauses.{all-small, among-all, base-clauses, base-ordered, clause-within, compat-spanned, from-all, within-clause}
pub use Rattle.ls_clauses.proofs.Flaws.{flawless-ordered, none-comparable, surmise-flawless}
pub use Rattle.ls_clauses.proofs.Places.{among-at, in_order-at, place-of}
pub use Rattle.ls_clauses.specs.Surmise.{IsPutInOrder, IsSurmise}
pub use Rattle.ls_domain.proofs.Numbers.{is_name-utf8, is_named-none, is_named-some, item_of-some, with-within}
pub use Rattle.ls_domain.specs.Domains.{IsDomain, is_name}
pub use Rattle.ls_domain.specs.Texts.{name_of}
unfoldable pub use Rattle.ls_domain.specs.Texts.{names_of_set}
pub use Rattle.ls_files.specs.SurmiseFiles.{IsSurmiseFaultOf, Table, are_named, clause_value, in_order, list_value, read_clauses, read_each, read_list, read_members, read_table, row_under, surmise_in, surmise_items, surmise_value, value_of, wide}
unfoldable pub use Rattle.ls_files.specs.SurmiseFiles.{clauses_in, is_table_named, members_from, surmise_from, surmise_of, surmise_text, table_of}
pub use Rattle.ls_laws.proofs.Lists.{IsInOrder-filter, same_members, some-among}
pub use Rattle.ls_laws.specs.Spans.{AreOn}
unfoldable pub use Rattle.ls_laws.specs.Spans.{spanned}
pub use Rattle.ls_cutting.specs.{Text}
pub use Rattle.ls_lists.proofs.Bools.{back_in, same_truth}
pub use Rattle.ls_lists.proofs.Every.{All-given, All-list_all, each, list_all-All}
pub use Rattle.ls_lists.proofs.Options.{nothing}
pub use Rattle.ls_lists.proofs.Places.{drop-next, is_some-position, position-lt}
pub use Rattle.ls_set.proofs.Members.{among-append, among-cases, among-filter, among-here, among-there}
pub use Rattle.ls_set.proofs.Order.{among-subsets, comes_before-asymmetric, comes_before-at, comes_before-irreflexive, comes_before-transitive, differs_first, subsets_from-in_order}
pub use Rattle.ls_set.proofs.Sets.{Decides-is_same, IsWithin-from, empty-within, has-empty, has-full, has-minus, is_within-from, members, same_set, union-empty_left}
pub use Rattle.ls_set.specs.{IsInOrder, IsWithin, Items, is_among, keep_before, numbers_from, subsets}
unfoldable pub use Rattle.ls_set.specs.{bound, comes_before, differing, empty, full, has, is_same, is_within, items, least, len, meet, minus, single, union, with, without}
pub use Rattle.ls_theory.proofs.Numbers.{numbers_last}
pub use Rattle.ls_theory.specs.{all_clauses, are_comparable, atoms_at, base, based, clause_at, clauses_at, clauses_of, comparable_at, comparable_in, compat, first_missing, first_some, has_clause_within, lacking_in, limited, most_base_sets, no_clause, places_after, places_of, unclosed_at, unclosed_in}
unfoldable pub use Rattle.ls_theory.specs.{flaw, interior}
pub use Rattle.ls_theory.specs.Starts.{Clauses, Sets}
pub use Rattle.ls_theory.specs.declared.surmise_fault.SurmiseFault.{SurmiseFault}
pub use Rattle.ls_theory.specs.declared.surmise_fault.SurmiseFault.TheVariants.{BadJson, Comparable, Memory, NoClause, NotClosed, Reflexive, UnknownItem, Wide}
pub use Rattle.serde_json.proofs.Views.{members_view-insert_entry, view-Array, view-Object}
pub use Rattle.serde_json.specs.Data.{Data, Items as Values, Members, array, boolean, depth, item, items_depth, member, members_depth, no_items, no_members, null, number, object, put, string}
pub use Rattle.serde_json.specs.Find.{as_array, as_str, get_member}
pub use Rattle.serde_json.specs.Read.{max_depth, of_items, of_json, of_members, read}
pub use Rattle.serde_json.specs.View.{items_of, items_of as values_of, items_view, members_view, view}
pub use Rattle.serde_json.specs.Written.{comma_if, compact_text, has_float, items_have_float, items_outline, items_text, members_have_float, members_outline, members_text, outline}
pub use Rattle.serde_json.specs.declared.value.Value.{Value, the_lemmas}
pub use Rattle.ls_surmise.specs.Reading.{are_known, clauses_from, clauses_read, is_known, named_set, read_all, read_clause, read_own, read_sets}
pub use Rattle.ls_surmise.specs.Surmises.{AreApart, IsSurmiseOf, IsWideOf, surmised}
pub use Rattle.ls_surmise.specs.declared.fault.FromFault.TheVariants.{NotSpanning}
