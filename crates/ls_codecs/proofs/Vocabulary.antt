-- The words that the proofs of this crate cite, passed on from one place.
pub use Rattle.std.proofs.Common.{Bool, Equal, Err, Greater, IsUtf8, Less, List, None, Ok, Option, Result, Some, [], ap, append-nil, append_assoc, ap₂, arith, codes, cond, drop, drop-cons, eq-eqb, eqb, eqb-true, false, filter, find, get_or, inl, inr, is_eq, le-leb, leb, leb-true, length, lt-ltb, ltb, ltb-false, ltb-true, map, max, ne_eqb, not, option_and_then, option_map, refl, replicate, rules, subst, suc, sym, take, true, true≢false, zero, ℕ, ◌&&◌, ◌++◌, ◌+◌, ◌-◌, ◌<◌, ◌^◌, ◌||◌, ◌∙◌, ◌∷◌, ◌≡◌, ◌≤◌}
pub use Rattle.std.proofs.lemmas.Bool.{agree_below_at, and_from, and_parts, false_from_ne_true, not-false, not-true, not_from_false, or_cases}
pub use Rattle.std.proofs.lemmas.List.{take-append-drop, take_more}
pub use Rattle.std.proofs.lemmas.Map.Keys.{IsStrictlyIncreasing-from_sorted, sorted_from_strictly_increasing}
pub use Rattle.std.proofs.lemmas.Str.{IsUtf8-from_is_utf8, is_utf8-from_IsUtf8}
pub use Rattle.std.specs.BTreeSet.{contains}
pub use Rattle.std.specs.Cmp.Lexicographic.{pointwise, pointwise_decides}
pub use Rattle.std.specs.List.{AllByRecursion, list_all, list_any}
unfoldable pub use Rattle.std.specs.List.{IsDistinct}
unfoldable pub use Rattle.std.specs.List.Sorted.{IsStrictlySortedBy}
pub use Rattle.std.specs.Option.{option_map_or, option_or, option_zip}
pub use Rattle.std.specs.Ordering.{nat_cmp}
pub use Rattle.std.specs.Prelude.{is_some, unwrap_or}
pub use Rattle.std.specs.Result.{is_ok, result_ok}
pub use Rattle.std.specs.Str.{bytes_eq}
unfoldable pub use Rattle.std.specs.Str.{chars, is_utf8}
pub use Rattle.json.proofs.Printed.Utf8.{IsUtf8-are_ascii, are_ascii}
pub use Rattle.ls_domain.proofs.Numbers.{is_name-utf8}
pub use Rattle.ls_domain.proofs.Readings.{names_of_words-again, names_of_words-read}
pub use Rattle.ls_domain.specs.Domains.{IsDomain, is_name, names_of_words}
unfoldable pub use Rattle.ls_domain.specs.Domains.{names_from}
pub use Rattle.ls_files.specs.Codecs.{Codec, at_key, both, four_values, kept_if, lists, numbers, read_object, read_pair, two_values}
pub use Rattle.ls_files.specs.SessionCodecs.{answer_codec, answer_from, answers_field, base_codec, block_codec, block_field, item_codec, limits_codec, limits_field, name_field, names_codec, names_field, next_field, odds_codec, odds_field, pupil_codec, pupil_fields, pupil_from, pupil_parts, pupils_codec, pupils_field, query_codec, ratio_codec, ratio_in, ratios_codec, replies_field, reply_codec, set_codec, settings_fields, settings_from, settings_parts, start_codec, start_field, start_from, start_value, start_within, surmise_codec, version_field, yes_field}
pub use Rattle.ls_files.specs.SessionFiles.{and_then, interview_from, interview_in, or_cause, read_interview, session_value, settings_in}
unfoldable pub use Rattle.ls_files.specs.SessionFiles.{session_from, session_of, session_text}
pub use Rattle.ls_files.proofs.CodecLaws.{IsReadBack, booleans-back, fewer, fours-back, kept, key-back, lists-back, mapped-back, numbers-back, only_if-back, pairs-back, parsed-back, texts-back, zipped}
pub use Rattle.ls_files.proofs.Texts.{read_object-compact_text}
pub use Rattle.ls_files.specs.Sessions.{Pupil, Session, pupil_states}
pub use Rattle.ls_files.specs.Standing.{are_apart, are_made, are_pupils, follow, is_ascending, is_asked, is_base}
unfoldable pub use Rattle.ls_files.specs.Standing.{is_pupil, stands}
pub use Rattle.ls_files.specs.SurmiseFiles.{in_order, read_each, read_list, wide}
unfoldable pub use Rattle.ls_files.specs.SurmiseFiles.{surmise_from}
pub use Rattle.ls_files.specs.declared.cause.Cause.{Cause}
pub use Rattle.ls_files.specs.declared.version.Version.{Version}
pub use Rattle.ls_laws.proofs.Breaks.{good-from}
pub use Rattle.ls_laws.specs.Spans.{AreOn}
pub use Rattle.ls_cutting.specs.{Text}
unfoldable pub use Rattle.ls_cutting.specs.{is_of}
pub use Rattle.ls_lists.proofs.Every.{All-given, All-list_all, each, list_all-All}
pub use Rattle.ls_lists.proofs.Places.{drop-next}
pub use Rattle.ls_set.proofs.Cursors.{nibble_of-lt, only, read_back}
pub use Rattle.ls_set.proofs.Members.{Each-among, among-append, among-filter, among-here, among-there}
pub use Rattle.ls_set.proofs.Order.{among-subsets, subsets_from-in_order}
pub use Rattle.ls_set.proofs.Sets.{Decides-is_same, IsWithin-from, is_within-from}
pub use Rattle.ls_set.specs.{Items, is_among, is_good, is_same, most_items}
pub use Rattle.ls_set.specs.declared.query.Query.{Query}
pub use Rattle.ls_theory.specs.{BlockRange, Interview, accepted, all_clauses, are_limits, are_ratios, are_settings, based, begun, clauses_of, first_missing, has_share, is_compatible, is_ratio, is_same_query, most_answers, most_number, no_queries, spaces_of}
unfoldable pub use Rattle.ls_theory.specs.{asked, base, blocks, compat, families, fitting_spaces, flaw, half_split, imbalance, interior, is_too_wide, leader, made, weight}
pub use Rattle.ls_theory.specs.Settings.{Settings}
unfoldable pub use Rattle.ls_theory.specs.Settings.{heavy_after}
pub use Rattle.ls_theory.specs.Starts.{Clauses, Free, Sets, Start}
pub use Rattle.ls_theory.specs.declared.answer.Answer.{Answer}
pub use Rattle.ls_theory.specs.declared.base_fault.BaseFault.{BaseFault}
pub use Rattle.ls_theory.specs.declared.ratio.Ratio.{Ratio}
pub use Rattle.ls_theory.specs.declared.ratio.Ratios.{Ratios}
pub use Rattle.serde_json.specs.Data.{Data, Items as Values, depth, item, members_depth, no_items, no_members, string}
pub use Rattle.serde_json.specs.Find.{as_array, as_object, as_str, get}
pub use Rattle.serde_json.specs.Read.{read}
pub use Rattle.serde_json.specs.View.{items_of, items_view, members_view, view}
pub use Rattle.serde_json.specs.Written.{compact_text}
pub use Rattle.ls_codecs.specs.{IsNarrow, IsPupil, IsStanding, IsStart, IsWhole}
pub use Rattle.ls_standing.specs.QueryOrders.{query_order, same-by_query_order, same_queries}
