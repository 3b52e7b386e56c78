-- The words that the proofs of this crate cite, passed on from one place.
pub use Rattle.std.proofs.Common.{◌++◌, ◌+◌, ◌<◌, ◌||◌, ◌∙◌, ◌∷◌, ◌≡◌, ◌≤◌, Bool, List, None, Option, Some, ℕ, [], ap, append-nil, append_assoc, ap₂, arith, codes, cond, decimal, false, le-ltb, length, lt-ltb, ne_eqb, not, refl, replicate, subst, sym, true}
pub use Rattle.ls_domain.specs.Domains.{names_of_table, names_of_words}
unfoldable pub use Rattle.ls_domain.specs.Domains.{names_from}
pub use Rattle.ls_domain.specs.Texts.{fringe_words}
unfoldable pub use Rattle.ls_domain.specs.Texts.{names_of_set}
pub use Rattle.ls_lines.specs.{Text, longest_line}
unfoldable pub use Rattle.ls_lines.specs.{command, command_of, cut, fault_place, forms, is_begun, is_of, lines, parts, spelling, words}
pub use Rattle.ls_set.specs.{Items}
unfoldable pub use Rattle.ls_set.specs.{bound, comes_before, cursor, cursor_set, differing, empty, full, has, is_same, is_within, items, least, len, meet, minus, read_cursor, single, union, with, without}
pub use Rattle.ls_theory.specs.{Interview, PupilResult, compatible_sets, is_lex_before, opposed, page, projection}
unfoldable pub use Rattle.ls_theory.specs.{asked, base, block_before, blocks, class_results, compat, families, fitting_spaces, half_split, heavy_after, imbalance, inner_fringe, interior, is_joined, is_too_wide, is_well_graded, known, leader, made, next_question, orders_of, outer_fringe, paths, peak, queries, query_before, replies_in, state_of, verdict, weight}
pub use Rattle.ls_meaning.specs.Effects.{Change, Effect, answers, refuse, refuse_fault}
pub use Rattle.ls_meaning.specs.Refusals.{refusal_words}
pub use Rattle.ls_meaning.specs.Replies.{is_refusal, is_refused, reply_of, words_effect}
unfoldable pub use Rattle.ls_meaning.specs.Replies.{command_effect, line_effect}
pub use Rattle.ls_meaning.specs.Scenes.{Bytes, Calls, Failed, Fetched, Missing, TooLarge, calls_of}
pub use Rattle.ls_meaning.specs.Sessions.{Session, has_domain, started}
unfoldable pub use Rattle.ls_meaning.specs.Texts.{bytes_of, line_of}
pub use Rattle.ls_meaning.specs.Transcripts.{Marked, World, bare_lines, count_marks, is_some_refused, reply_at, transcript, unmarked, world_next}
unfoldable pub use Rattle.ls_meaning.specs.Transcripts.{refuses, replies, world_after}
pub use Rattle.ls_meaning.specs.declared.response.Refusal.TheVariants.{Answer, AnswersStand, BadClass, BadSession, BadSetting, Block, Cursor, Domain, DomainStands, FileFailed, Heavy, LargeFile, LongLine, ManyPupils, ManyStates, NoCommand, NoFile, NoPupil, NoState, NotLearning, NotOrder, NotStanding, NotState, Past, PupilStands, Reply, StartBase, StartSets, StartSurmise, TestedSets, Unnamed}
pub use Rattle.ls_meaning.specs.declared.response.Response.TheVariants.{Accepted, Agreed, Done, Refused, Shown, Silence}
