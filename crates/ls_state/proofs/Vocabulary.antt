-- The words that the proofs of this crate cite, passed on from one place.
pub use Rattle.std.proofs.Common.{◌++◌, ◌+◌, ◌<◌, ◌==◌, ◌∙◌, ◌∷◌, ◌≡◌, ◌≤◌, ◌↔◌, Bool, Err, IfOk, IsErrAnd, IsErrOf, List, None, Ok, OnOk, Option, Result, Some, Vec, ℕ, [], ap, ap₂, arith, bytes_eq, cond, false, inl, inr, le-ltb, length, lt-ltb, ne_eqb, not, refl, subst, suc, sym, true}
pub use Rattle.std.proofs.lemmas.Bool.{cases_Bool, true≢false}
pub use Rattle.std.proofs.lemmas.List.Quantifiers.{position-Some}
pub use Rattle.std.specs.declared.alloc.AllocError.{AllocError}
pub use Rattle.ls_domain.proofs.Numbers.{is_named-none, item_of-some, with-within}
pub use Rattle.ls_domain.specs.Meanings.{is_named, item_of, items_of, number_of}
pub use Rattle.ls_edge.specs.Causes.{one_more}
pub use Rattle.ls_edge.specs.Files.{Folder, StoreCause, FolderStays, Stores, longest_file}
unfoldable pub use Rattle.ls_files.specs.{session_text}
pub use Rattle.ls_laws.specs.Forced.{IsSound}
pub use Rattle.ls_cutting.specs.{Text, is_long}
pub use Rattle.ls_lines.specs.{pupil_name}
unfoldable pub use Rattle.ls_cutting.specs.{words}
unfoldable pub use Rattle.ls_lines.specs.{command_of}
pub use Rattle.ls_lines.specs.declared.command.Command.{Command}
pub use Rattle.ls_lines.specs.declared.edit.EditCommand.{EditCommand}
pub use Rattle.ls_lines.specs.declared.file.FileCommand.{FileCommand}
pub use Rattle.ls_lines.specs.declared.opening.OpeningCommand.{OpeningCommand}
pub use Rattle.ls_lines.specs.declared.pupil.PupilCommand.{PupilCommand}
pub use Rattle.ls_lines.specs.declared.safe.SafeCommand.{SafeCommand}
pub use Rattle.ls_lines.specs.declared.setting.SettingCommand.{SettingCommand}
pub use Rattle.ls_lines.specs.declared.view.ViewCommand.{ViewCommand}
pub use Rattle.ls_meaning.proofs.Effects.{in_domain-some}
pub use Rattle.ls_meaning.specs.{Bytes, Calls, Change, Effect, Failed, Fetched, IsAfterOn, IsViewOn, Missing, Session, TooLarge, after_of, answers, bytes_fetched, changed, changes, changes_interview, changes_pupils, changes_settings, class_row, edit_effect, edit_item_words, edit_of, edit_row, file_effect, file_refusals, has_domain, in_domain, lines_of, opening_row, placed, projected_place, pupil_effect, pupil_item_words, pupil_of, pupil_row, pupil_with, question_shown, refuse, reply_row, report_shown, save_row, setting_effect, setting_item_words, setting_of, setting_row, shown_of, start_read, start_row, started, starts_by, stores, test_row, unless_unnamed, unnamed, view_effect, view_item_words, view_of, view_row, words_effect, ◌otherwise◌}
unfoldable pub use Rattle.ls_meaning.specs.{bytes_of, command_effect, line_effect}
pub use Rattle.ls_meaning.specs.Meanings.{some_read}
pub use Rattle.ls_meaning.specs.Sessions.{Pupil}
pub use Rattle.ls_meaning.specs.declared.request.Edit.{Edit}
pub use Rattle.ls_meaning.specs.declared.request.PupilRequest.{PupilRequest}
pub use Rattle.ls_meaning.specs.declared.request.Setting.{Setting}
pub use Rattle.ls_meaning.specs.declared.response.Refusal.{Refusal}
pub use Rattle.ls_meaning.specs.declared.response.Refusal.TheVariants.{AnswersStand, FileFailed, LargeFile, LongLine, NoFile, Unnamed}
pub use Rattle.ls_meaning.specs.declared.response.Response.{Response}
pub use Rattle.ls_meaning.specs.declared.response.Response.TheVariants.{Accepted, Agreed, Done, Refused, Shown, Silence}
pub use Rattle.ls_set.proofs.Sets.{has-empty}
pub use Rattle.ls_set.specs.{IsWithin, Items}
unfoldable pub use Rattle.ls_set.specs.{full, read_cursor}
pub use Rattle.ls_set.specs.declared.cursor.CursorFault.{CursorFault}
pub use Rattle.ls_theory.specs.{Interview}
unfoldable pub use Rattle.ls_theory.specs.{base}
pub use Rattle.ls_theory.specs.Settings.{Settings}
pub use Rattle.ls_theory.specs.declared.answer.Answer.{Answer}
pub use Rattle.ls_room.proofs.Saying.{says_as}
pub use Rattle.ls_write.proofs.Showing.{can-view}
pub use Rattle.ls_write.specs.Showing.{CanSay, is_shown}
pub use Rattle.ls_deciding.specs.Changes.{MakesChange}
pub use Rattle.ls_deciding.specs.Fetches.{AreFetched, AreMade, FailedLast, Fetching, GaveBytes, IsFetched, Sees, SeesFile, SeesFiles, ShelfState, shelf_state}
pub use Rattle.ls_state.specs.Decides.{Decides, FewCalls, IsDecided, Makes}
pub use Rattle.ls_state.specs.Standing.{IsAfterLine, standing_session}
pub use Rattle.ls_state.specs.States.{state_session}
pub use Rattle.ls_files.specs.ClassTables.{class_of}
pub use Rattle.ls_files.specs.SetFiles.{sets_of}
pub use Rattle.ls_meaning.specs.{IsSafeOn, changes_safe, classed_by, safe_effect, safe_item_words, safe_of, safe_row, safe_states_row, saved, tested_by}
pub use Rattle.ls_meaning.specs.declared.request.SafeRequest.{SafeRequest}
pub use Rattle.ls_origins.specs.Safe.{SafeInterview, first_family, safe_family}
pub use Rattle.ls_theory.specs.{compatible_sets}
