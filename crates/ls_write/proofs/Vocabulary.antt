-- The words that the proofs of this crate cite, passed on from one place.
pub use Rattle.std.proofs.Common.{◌%◌, ◌&&◌, ◌*◌, ◌++◌, ◌+◌, ◌-◌, ◌/◌, ◌<◌, ◌∙◌, ◌∷◌, ◌≡◌, ◌≢◌, ◌≤◌}
pub use Rattle.std.proofs.Common.{Bool, Bor, Equal, Err, Greater, IfSome, Less, List, MatchOption}
pub use Rattle.std.proofs.Common.{None, Ok, Option, Result, Some, ℕ, [], ap, append-nil}
pub use Rattle.std.proofs.Common.{append_assoc, ap₂, arith, codes, cond, decimal, drop, eqb, false}
pub use Rattle.std.proofs.Common.{filter, get_or, inl, inr, is_some, length, length-append, lt-ltb}
pub use Rattle.std.proofs.Common.{ltb, map, not, option_copied, refl, rules, subst, suc, sym, take}
pub use Rattle.std.proofs.Common.{true, zero}
pub use Rattle.std.proofs.lemmas.Bool.{and_from, and_parts, cases_Bool}
pub use Rattle.std.proofs.lemmas.Bool.Decides.{Decides-eqb, nat_tests}
pub use Rattle.std.proofs.lemmas.Grind.{flat_map-append}
pub use Rattle.std.proofs.lemmas.List.{drop_all, drop_more, get_or-append-add, get_or-map}
pub use Rattle.std.proofs.lemmas.List.{length-map, take_all}
pub use Rattle.std.proofs.lemmas.List.Elements.{All-head, All-tail}
pub use Rattle.std.proofs.lemmas.Simd.{map-map}
pub use Rattle.std.proofs.lemmas.Slice.Eq.{bytes_eq-Decides, strip_prefix_is}
pub use Rattle.std.specs.Cmp.Lexicographic.{pointwise, slice_cmp}
pub use Rattle.std.specs.List.{All, IsDistinct}
pub use Rattle.std.specs.Prelude.{slice_index}
pub use Rattle.json.specs.Print.{escape, quoted}
unfoldable pub use Rattle.json.specs.Print.{escape_byte}
pub use Rattle.serde_json.specs.Written.{comma_if, compact_text, items_text, members_text}
pub use Rattle.ls_lists.proofs.Filters.{filter_true}
pub use Rattle.ls_lists.proofs.Joins.{spaced-next}
pub use Rattle.ls_lists.proofs.Places.{drop-next}
pub use Rattle.ls_lists.specs.Lists.{spaced}
pub use Rattle.ls_set.specs.{Items, comes_before, full, is_among, is_good, items, meet}
pub use Rattle.ls_set.specs.{numbers_from, set_of}
unfoldable pub use Rattle.ls_set.specs.{has}
pub use Rattle.ls_theory.specs.{Interview, Peak, PupilResult, atom_items, atom_sets, atoms_at, base}
pub use Rattle.ls_theory.specs.{base_verdict, breaks_none, clauses_at, compat, compatible_sets}
pub use Rattle.ls_theory.specs.{double_atom, fringes, is_atom_at, is_learning_space, is_lex_before}
pub use Rattle.ls_theory.specs.{is_order, is_space, is_well_graded, known, page, paths, peak_of}
pub use Rattle.ls_theory.specs.{projection, state_of, yes_queries}
pub use Rattle.ls_theory.specs.declared.verdict.BaseVerdict.{BaseVerdict}
pub use Rattle.ls_laws.specs.Forced.{IsSound}
pub use Rattle.ls_enum.proofs.Left.{more_steps}
pub use Rattle.ls_enum.specs.Listings.{left_after}
pub use Rattle.ls_paths.specs.Left.{paths_left}
pub use Rattle.ls_cutting.specs.{Text}
pub use Rattle.ls_domain.specs.Domains.{IsDomain}
pub use Rattle.ls_domain.specs.Texts.{joined_names, name_of, set_text}
unfoldable pub use Rattle.ls_domain.specs.Texts.{names_of_set}
pub use Rattle.ls_files.specs.ClassResults.{result_of}
pub use Rattle.ls_files.specs.SkillFiles.{base_skills, own_skills}
pub use Rattle.ls_files.specs.declared.class_results.ClassResult.{ClassResult}
pub use Rattle.ls_meaning.specs.{◌otherwise◌, IsAfterOn, IsViewOn, Line, Session, asked_line}
pub use Rattle.ls_meaning.specs.{base_lines, based_row, detail_of, detail_word, fringes_line}
pub use Rattle.ls_meaning.specs.{known_line, learned, learning_line, learning_refusals, line}
pub use Rattle.ls_meaning.specs.{line_bytes, lines_bytes, lines_of, more_line, notice_words}
pub use Rattle.ls_meaning.specs.{outcome_line, page_lines, past_refusal, path_line, path_lines}
pub use Rattle.ls_meaning.specs.{paths_shown, project_row, question_line, reason_word}
pub use Rattle.ls_meaning.specs.{accepted_words, applied, pending, safe_line, safe_lines}
pub use Rattle.ls_meaning.specs.{refusal_words, refuse, refuse_fault, result_line, set_line}
pub use Rattle.ls_meaning.specs.{shown_lines, started, state_line, state_shown, states_row}
pub use Rattle.ls_meaning.specs.{surmise_line, verdict_line, view_row}
pub use Rattle.ls_meaning.specs.Lines.{agree_line, cover_line, cover_lines, no_relation_line}
pub use Rattle.ls_meaning.specs.Lines.{skills_line}
unfoldable pub use Rattle.ls_meaning.specs.{bytes_of, line_of}
pub use Rattle.ls_meaning.specs.declared.request.View.{View}
pub use Rattle.ls_meaning.specs.declared.response.Response.{Response}
pub use Rattle.ls_meaning.specs.declared.response.Shown.{Shown}
pub use Rattle.ls_room.specs.Rooms.{Says}
pub use Rattle.ls_room.specs.Names.{insert_by_name, items_by_name, quoted_name}
unfoldable pub use Rattle.ls_room.specs.Names.{by_name}
pub use Rattle.ls_room.specs.SetTexts.{names_in}
pub use Rattle.ls_write.specs.Paths.{IsTextOf, PathFront, paths_after}
pub use Rattle.ls_write.specs.Showing.{CanSay, CanShow, session_with}
pub use Rattle.ls_write.specs.SkillTexts.{skills_row_text}
pub use Rattle.ls_write.specs.SurmiseTexts.{clause_text, clauses_text, listed, row_text}
unfoldable pub use Rattle.ls_write.specs.SurmiseTexts.{rows_text}
