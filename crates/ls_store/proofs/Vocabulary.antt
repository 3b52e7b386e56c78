-- The words that the proofs of this crate cite, passed on from one place.
unfoldable pub use Rattle.ls_files.specs.SessionFiles.{session_from, session_of, session_text}
unfoldable pub use Rattle.ls_files.specs.Standing.{stands}
unfoldable pub use Rattle.ls_theory.specs.{made}
unfoldable pub use Rattle.ls_files.specs.Standing.{is_pupil}
unfoldable pub use Rattle.ls_theory.specs.{compat}
pub use Rattle.std.proofs.Common.{Bool, Err, IfErr, IfOk, IsErrAnd, List, None, Ok, Option}
pub use Rattle.std.proofs.Common.{Result, Some, [], ap, ap₂, codes, cond, false, length, map}
pub use Rattle.std.proofs.Common.{option_map, refl, rules, subst, sym, true, true≢false, ℕ, ◌∙◌}
pub use Rattle.std.proofs.Common.{◌∷◌, ◌≡◌, ◌≤◌, append_assoc, arith, drop, filter, get_or, inl}
pub use Rattle.std.proofs.Common.{inr, is_none, le-leb, leb, leb-true, not, option_and_then, suc}
pub use Rattle.std.proofs.Common.{take, ◌&&◌, ◌++◌, ◌+◌, ◌<◌, ◌||◌}
pub use Rattle.std.proofs.lemmas.Bool.{false_from_ne_true, and_from, and_parts, cases_Bool}
pub use Rattle.std.proofs.lemmas.Bool.{lt-leb}
pub use Rattle.std.proofs.lemmas.Result.{IfOk-weaker}
pub use Rattle.std.specs.Option.{option_zip}
pub use Rattle.std.specs.Result.{is_ok}
pub use Rattle.ls_standing.specs.Standing.{interview_on}
pub use Rattle.ls_expert.specs.Saved.{IsStandingFault}
pub use Rattle.ls_standing.specs.Starts.{IsStartOn, start_of, StartOn}
pub use Rattle.ls_files.specs.Codecs.{kept_if, lists, numbers, read_object, both}
pub use Rattle.ls_files.specs.SessionCodecs.{answer_codec, answers_field, block_field}
pub use Rattle.ls_files.specs.SessionCodecs.{limits_field, names_field, next_field, odds_field}
pub use Rattle.ls_files.specs.SessionCodecs.{pupil_codec, pupils_field, start_codec, start_field}
pub use Rattle.ls_files.specs.SessionCodecs.{version_field, name_field, pupil_from, query_codec}
pub use Rattle.ls_files.specs.SessionCodecs.{replies_field, reply_codec, settings_fields}
pub use Rattle.ls_files.specs.SessionCodecs.{settings_parts, yes_field}
pub use Rattle.ls_files.specs.SessionFiles.{and_then, interview_from, interview_in, or_cause}
pub use Rattle.ls_files.specs.SessionFiles.{read_interview, settings_in}
pub use Rattle.ls_files.specs.Sessions.{Pupil, Session, most_pupils}
pub use Rattle.ls_files.specs.Standing.{are_made, are_apart, are_pupils, follow}
pub use Rattle.ls_files.specs.SurmiseFiles.{list_value, read_each, read_list}
pub use Rattle.ls_files.specs.declared.cause.Cause.{Cause}
pub use Rattle.ls_files.specs.declared.version.Version.{Version}
pub use Rattle.ls_cutting.specs.{Text}
pub use Rattle.ls_pupils.specs.Cases.{ArePupils, pupil_of_case, pupils_of, IsCase, case_name}
pub use Rattle.ls_pupils.specs.declared.cases.PupilCase.{PupilCase}
pub use Rattle.ls_set.specs.{most_items, Items, is_good}
pub use Rattle.ls_theory.specs.{BlockRange, Interview, breaks_none, is_same_query, most_states}
pub use Rattle.ls_theory.specs.Settings.{Settings}
pub use Rattle.ls_theory.specs.Starts.{Start}
pub use Rattle.ls_theory.specs.declared.answer.Answer.{Answer}
pub use Rattle.serde_json.specs.Data.{Data, array, item, no_members, object, Members, put, string}
pub use Rattle.serde_json.specs.View.{items_of, members_view, view, items_view}
pub use Rattle.ls_store.specs.Faults.{IsSessionFault, told}
pub use Rattle.ls_codecs.specs.Faults.{IsReadAs}
pub use Rattle.std.proofs.lemmas.List.{length-map, length_push, map_push}
pub use Rattle.std.specs.List.{list_all, list_any, position}
pub use Rattle.std.specs.Prelude.{IfSome, is_some}
pub use Rattle.std.specs.Str.{bytes_eq}
pub use Rattle.ls_domain.specs.Domains.{is_name}
pub use Rattle.ls_lists.proofs.Places.{is_some-position}
pub use Rattle.ls_pupils.specs.Own.{have_own_names, is_called}
pub use Rattle.ls_set.specs.declared.query.Query.{Query}
pub use Rattle.ls_theory.specs.declared.ratio.Ratios.{Ratios}
pub use Rattle.ls_theory.specs.declared.reply.Reply.{Reply}
pub use Rattle.ls_weight.specs.Weighings.{IsWeighable, Weighing}
pub use Rattle.serde_json.specs.Find.{as_array}
