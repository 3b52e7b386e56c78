-- The words that the proofs of this crate cite, passed on from one place.
pub use Rattle.ls_domain.specs.Domains.{names_of_table, names_of_words}
unfoldable pub use Rattle.ls_files.specs.{session_of}
pub use Rattle.ls_lines.specs.{Text, is_long, longest_line}
pub use Rattle.ls_lines.specs.declared.opening.OpeningCommand.{OpeningCommand}
pub use Rattle.ls_meaning.proofs.Effects.{items_row-begins, line_effect-command, line_effect-fault, line_effect-long, load_items_row-begins, load_items_row-stands}
pub use Rattle.ls_meaning.specs.{Calls, Effect, Fetched, Session, answers, bytes_fetched, changes, file_refusals, has_domain, is_refusal, is_refused, lines_of, load_items_row, open_row, opened_by, opening_row, refusal_words, reply_of, started_by}
unfoldable pub use Rattle.ls_meaning.specs.{bytes_of, command_effect, line_effect, line_of}
pub use Rattle.ls_meaning.specs.declared.response.Refusal.{Refusal}
pub use Rattle.ls_meaning.specs.declared.response.Refusal.TheVariants.{LongLine}
pub use Rattle.ls_meaning.specs.declared.response.Response.{Response}
pub use Rattle.ls_meaning.specs.declared.response.Response.TheVariants.{Refused, Silence}
pub use Rattle.ls_state.specs.Decides.{Decides, ShelfState, shelf_state}
pub use Rattle.ls_state.specs.Standing.{IsAfterLine, standing_session}
pub use Rattle.ls_room.proofs.Saying.{says_as, wrote}
pub use Rattle.std.proofs.Common.{Bool, Err, IsErrAnd, IsErrOf, List, Ok, Option, Result, [], ap, append-nil, ap₂, arith, codes, false, inl, inr, length, ltb-true, refl, subst, sym, true, ℕ, ◌∙◌, ◌∷◌, ◌≡◌}
pub use Rattle.std.specs.declared.alloc.AllocError.{AllocError}
