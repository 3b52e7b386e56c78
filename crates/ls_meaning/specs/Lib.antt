pub mod Texts
pub mod Sessions
pub mod Scenes
pub mod Meanings
pub mod Told
pub mod FileRefusals
pub mod Refusals
pub mod Heads
pub mod Notices
pub mod StateLists
pub mod Lines
pub mod Effects
pub mod RelationRows
pub mod Rows
pub mod SkillRows
pub mod MeshRows
pub mod SafeRows
pub mod Pupils
pub mod Replies
pub mod Looking
pub mod Transcripts
pub mod Saving
pub use Rattle.ls_meaning.specs.Effects.{◌otherwise◌, Change, Effect, answers, changed, changes}
pub use Rattle.ls_meaning.specs.Effects.{changes_interview, changes_pupils, changes_safe}
pub use Rattle.ls_meaning.specs.Effects.{changes_settings}
pub use Rattle.ls_meaning.specs.Effects.{refuse, refuse_fault, stores}
pub use Rattle.ls_meaning.specs.Lines.{Line, asked_line, base_lines, class_lines, double_words}
pub use Rattle.ls_meaning.specs.Lines.{fringes_line, known_line, learning_line, line, line_bytes}
pub use Rattle.ls_meaning.specs.Lines.{line_words, lines_bytes, lines_of, more_line, outcome_line}
pub use Rattle.ls_meaning.specs.Lines.{accepted_words, safe_line, safe_lines}
pub use Rattle.ls_meaning.specs.Lines.{page_lines, path_line, path_lines, question_line}
pub use Rattle.ls_meaning.specs.Lines.{result_line, set_line, shown_lines, state_line, surmise_line}
pub use Rattle.ls_meaning.specs.Lines.{verdict_line, verdict_words}
pub use Rattle.ls_meaning.specs.Meanings.{IsAfterOn, IsPupilOn, IsSettingOn, IsViewOn, after_of}
pub use Rattle.ls_meaning.specs.Meanings.{edit_item_words, edit_of, order_words, placed}
pub use Rattle.ls_meaning.specs.Meanings.{projected_place, pupil_item_words, pupil_of, query_of}
pub use Rattle.ls_meaning.specs.Meanings.{IsSafeOn, safe_item_words, safe_of}
pub use Rattle.ls_meaning.specs.Meanings.{query_words, setting_item_words, setting_of, sets_words}
pub use Rattle.ls_meaning.specs.Meanings.{two_odds, two_ratios, unnamed, view_item_words, view_of}
pub use Rattle.ls_meaning.specs.Pupils.{asked_of, begin_refusals, begin_row, class_row, classed_by}
pub use Rattle.ls_meaning.specs.Pupils.{close_row, has_name, most_pupils, new_pupil, pupil_row}
pub use Rattle.ls_meaning.specs.Pupils.{pupil_with, question_shown, replied, reply_row}
pub use Rattle.ls_meaning.specs.Pupils.{report_shown, setting_row, shown_of, weighing_refusals}
pub use Rattle.ls_meaning.specs.Pupils.{with_pupil}
pub use Rattle.ls_meaning.specs.Told.{Detail, Notice, told}
pub use Rattle.ls_meaning.specs.Refusals.{cause_word, detail_word, notice_words}
pub use Rattle.ls_meaning.specs.Refusals.{reason_word, refusal_notice, refusal_words}
pub use Rattle.ls_meaning.specs.Notices.{detail_of, notice_of}
pub use Rattle.ls_meaning.specs.Replies.{edit_effect, file_effect, in_domain, is_refusal}
pub use Rattle.ls_meaning.specs.Replies.{is_refused, opening_row, pupil_effect, reply_of}
pub use Rattle.ls_meaning.specs.Replies.{safe_effect}
pub use Rattle.ls_meaning.specs.Replies.{setting_effect, unless_unnamed, view_effect, words_effect}
unfoldable pub use Rattle.ls_meaning.specs.Replies.{command_effect, line_effect}
pub use Rattle.ls_meaning.specs.Rows.{answer_row, based_row, block_refusals, blocks_row}
pub use Rattle.ls_meaning.specs.Rows.{bytes_fetched, edit_row, file_refusals, fringes_row}
pub use Rattle.ls_meaning.specs.Rows.{items_row, known_row, learned, learning_refusals}
pub use Rattle.ls_meaning.specs.Rows.{load_items_row, past_refusal, paths_shown, project_row}
pub use Rattle.ls_meaning.specs.Rows.{retract_row, start_of_base, start_of_clauses, start_of_sets}
pub use Rattle.ls_meaning.specs.Rows.{start_read, start_row, started_by, starts_by, state_shown}
pub use Rattle.ls_meaning.specs.Rows.{states_row, test_row, tested_by, view_row}
pub use Rattle.ls_meaning.specs.SafeRows.{accepted_shown, applied, pending, safe_answer_row}
pub use Rattle.ls_meaning.specs.SafeRows.{safe_list_row, safe_open_row, safe_row}
pub use Rattle.ls_meaning.specs.SafeRows.{safe_states_row}
pub use Rattle.ls_meaning.specs.Saving.{open_row, opened_by, save_row}
pub use Rattle.ls_meaning.specs.Scenes.{Bytes, Calls, Failed, Fetched, Missing, TooLarge, calls_of}
pub use Rattle.ls_meaning.specs.Scenes.{fetched_from}
pub use Rattle.ls_meaning.specs.Sessions.{Session, has_domain, pupil_states, saved, started}
pub use Rattle.ls_meaning.specs.Sessions.{taken_up}
unfoldable pub use Rattle.ls_meaning.specs.Texts.{bytes_of, line_of}
pub use Rattle.ls_meaning.specs.Transcripts.{Marked, World, bare_lines, begun_over, count_marks}
pub use Rattle.ls_meaning.specs.Transcripts.{effect_at, final_folder, folder_with, is_some_refused}
pub use Rattle.ls_meaning.specs.Transcripts.{reply_at, transcript, unmarked, world_next}
unfoldable pub use Rattle.ls_meaning.specs.Transcripts.{refuses, replies, world_after}
