-- The words that the proofs of this crate cite, passed on from one place.
pub use Rattle.std.proofs.Common.{◌++◌, ◌+◌, ◌-◌, ◌<◌, ◌^◌, ◌||◌, ◌∙◌, ◌∷◌, ◌≡◌, ◌≤◌, ◌⊎◌, Bool, Err, IfOk, IfSome, IsErr, IsErrAnd, IsErrOf, List, MatchResult, None, Ok, OnErr, OnOk, Option, Result, Some, Vec, ℕ, [], ap, append-nil, append_assoc, arith, bytes_eq, codes, cond, drop, false, inl, inr, le-ltb, length, length-append, ltb, map, refl, subst, sym, take, true}
pub use Rattle.std.proofs.KnownBytes.{Appends-kept, Appends-nil, Consumes-kept, Consumes-nil, Consumes-trans, Keeps-refl}
pub use Rattle.std.proofs.lemmas.Grind.{common_steps}
pub use Rattle.std.proofs.lemmas.List.{append_cancel_right, take-append-le}
pub use Rattle.std.proofs.lemmas.Result.{IfOk-weaker, on_err_weaker}
pub use Rattle.std.specs.Io.KnownBytes.{Appends, Consumes, IsAtEnd, Keeps}
pub use Rattle.std.specs.Prelude.{⊤}
pub use Rattle.std.specs.declared.alloc.AllocError.{AllocError}
pub use Rattle.ls_edge.proofs.Known.{appends_keep, appends_more, appends_none}
pub use Rattle.ls_edge.specs.Causes.{AppendsFront, Rose}
pub use Rattle.ls_edge.specs.Files.{FetchedFrom, Fetches, Folder, FolderStays, GivesBytes, given, longest_file}
pub use Rattle.ls_edge.specs.declared.traits.FetchFault.{FetchFault}
pub use Rattle.ls_cutting.proofs.Cuts.{ahead-lines, goes_on}
pub use Rattle.ls_lines.specs.{Ends, Holds, IsTaken, Text, ahead, ended_of, is_file, is_from_to, is_long, kept}
unfoldable pub use Rattle.ls_lines.specs.{command, command_of, cut, forms, is_begun, is_of, lines, parts, spelling, words}
pub use Rattle.ls_cutting.specs.declared.ended.Ended.{Ended}
pub use Rattle.ls_meaning.proofs.Marks.{bare_lines-append, count_marks-cons, count_marks-snoc, mark_count, marked, none-marked, refuses-snoc, replies-snoc, world_after-snoc}
pub use Rattle.ls_meaning.specs.{Calls, Effect, Fetched, Marked, Session, World, answers, bare_lines, begun_over, calls_of, count_marks, effect_at, folder_with, is_refusal, reply_at, reply_of, started, unmarked, world_next}
unfoldable pub use Rattle.ls_meaning.specs.{bytes_of, command_effect, line_effect, refuses, replies, world_after}
pub use Rattle.ls_session.specs.Follows.{Follows, Gives, IsUndone, MovesSink, Said}
pub use Rattle.ls_session.specs.declared.step_fault.StepFault.{StepFault}
pub use Rattle.ls_session.specs.declared.step_fault.StepFault.TheVariants.{Memory, Write}
pub use Rattle.ls_words.specs.declared.mode.Mode.{Mode}
pub use Rattle.ls_words.specs.declared.mode.Mode.TheVariants.{Drill, File, Input}
pub use Rattle.ls_shell.specs.Named.{AnswersFile, AnswersGiven, AnswersNamed, LeavesAll, WritesDrill}
pub use Rattle.ls_shell.specs.Progress.{Answers, AnswersLine, FewMarks, HasAnswered, IsAnswered, IsBegun, IsFresh, LeavesFiles, StopsAt}
pub use Rattle.ls_shell.specs.Runs.{AnswersEnded, AnswersWhole, IsExtended, TakesAndAnswers, TakesAndStops, TakesScript, TakesWhole, longest_script}
pub use Rattle.ls_shell.specs.Scripts.{AnswersScript, MarksScript, TakesFew, WritesTranscript, usage_line}
pub use Rattle.ls_shell.specs.Statuses.{input_status, unread_status, whole_status}
pub use Rattle.ls_shell.specs.declared.run.Run.{Run}
pub use Rattle.ls_shell.specs.declared.run_fault.RunFault.{RunFault}
pub use Rattle.ls_shell.specs.declared.status.Status.{Status}
pub use Rattle.ls_shell.specs.declared.status.Status.TheVariants.{Done, InputLong, NoMemory, NoScript, ReadFault, Refused, Usage, WriteFault}
