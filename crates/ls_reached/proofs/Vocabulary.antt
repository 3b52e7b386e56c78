-- The words that the proofs of this crate cite, passed on from one place.
pub use Rattle.std.proofs.Common.{◌+◌, ◌++◌, ◌<◌, ◌∙◌, ◌∷◌, ◌≡◌, ◌≤◌, Bool, Err, List, None, Ok, Option, Result, Some, ℕ, [], ap, append-nil, append_assoc, ap₂, arith, codes, cond, drop, eq-eqb, eqb, eqb-true, false, filter, is_some, le-leb, leb, leb-false, leb-true, length, length-append, ltb, ltb-false, map, map as map_of, not, option_map, refl, replicate, set, subst, suc, sym, take, true}
pub use Rattle.std.proofs.lemmas.Bool.{and_from, and_parts, not-false}
pub use Rattle.std.proofs.lemmas.List.{length-map, length-replicate, length-set, nil_from_length}
pub use Rattle.std.specs.List.{AllByRecursion, IsDistinct, cons_option, filter_map, list_all, slice_get}
pub use Rattle.std.specs.Prelude.{bytes_eq, is_none, slice_index_or, ⊤}
pub use Rattle.std.specs.Result.{is_ok, result_ok}
pub use Rattle.ls_domain.specs.Domains.{IsDomain, is_name, names_of_table, names_of_words}
unfoldable pub use Rattle.ls_domain.specs.Domains.{names_from}
pub use Rattle.ls_expert.proofs.Retracting.{distinct-fewer, standing-back}
pub use Rattle.ls_expert.proofs.Taking.{distinct-last, standing-taken}
pub use Rattle.ls_lines.specs.{Text, front, is_long, one}
unfoldable pub use Rattle.ls_lines.specs.{command, command_of, cut, forms, is_of, lines, parts, spelling, words}
pub use Rattle.ls_lists.proofs.Every.{All-append, All-filter, All-given, All-map, each, list_all-set}
pub use Rattle.ls_meaning.specs.{Calls, Effect, Fetched, Marked, Missing, Session, World, asked_of, begin_refusals, begun_over, block_refusals, bytes_fetched, calls_of, changed, edit_row, file_refusals, has_domain, has_name, most_pupils, new_pupil, opened_by, pupil_row, pupil_with, refuse, refuse_fault, replied, reply_row, saved, setting_row, start_of_base, start_of_clauses, start_of_sets, start_read, start_row, started, started_by, starts_by, stores, weighing_refusals, with_pupil, words_effect, world_next}
unfoldable pub use Rattle.ls_meaning.specs.{command_effect, line_effect, world_after}
pub use Rattle.ls_meaning.specs.declared.response.Refusal.{Refusal}
pub use Rattle.ls_meaning.specs.declared.request.StartFile.{StartFile}
pub use Rattle.ls_files.specs.{are_made, are_pupils, follow, is_asked, session_of, session_text}
pub use Rattle.ls_codecs.specs.{IsNarrow, IsPupil, IsStanding, IsStart, IsWhole}
unfoldable pub use Rattle.ls_files.specs.{is_pupil}
pub use Rattle.ls_set.specs.{Items, is_good}
unfoldable pub use Rattle.ls_set.specs.{bound, comes_before, differing, empty, full, has, is_same, is_within, items, least, len, meet, minus, single, union, with}
pub use Rattle.ls_theory.specs.{BlockRange, Free, Interview, Start, accepted, asked, base, based, begun, compatible_sets, first_missing, is_same_query, limited, made, most_base_sets, refusal, reply_fault, retracted, standard, yes_queries}
unfoldable pub use Rattle.ls_theory.specs.{compat, families, fitting_spaces, interior, known}
pub use Rattle.ls_theory.specs.Settings.{Settings, heavy_after, most_states}
pub use Rattle.ls_reached.specs.Reached.{Called, IsKept, IsReached}
unfoldable pub use Rattle.ls_reached.specs.Reached.{session_after}
