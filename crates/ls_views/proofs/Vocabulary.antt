-- The words that the proofs of this crate cite, passed on from one place.
pub use Rattle.std.proofs.Common.{◌<◌, ◌∙◌, ◌∷◌, ◌≡◌, Err, List, Option, Some, ℕ, [], ap, arith}
pub use Rattle.std.proofs.Common.{length, rules, subst, sym}
pub use Rattle.std.proofs.lemmas.Result.{IfOk-weaker}
pub use Rattle.std.specs.Prelude.{slice_get}
pub use Rattle.ls_set.specs.{Items}
pub use Rattle.ls_theory.specs.{Interview, base_verdict, compatible_sets}
pub use Rattle.ls_lines.specs.{Text}
pub use Rattle.ls_meaning.proofs.Effects.{in_domain-some}
pub use Rattle.ls_meaning.specs.{◌otherwise◌, Calls, Effect, Session, answers, based_row}
pub use Rattle.ls_meaning.specs.{bytes_of, is_refusal, lines_of, past_refusal, refuse_fault}
pub use Rattle.ls_meaning.specs.{reply_of, started, unless_unnamed, unnamed, view_effect}
pub use Rattle.ls_meaning.specs.{view_item_words, view_of, view_row}
unfoldable pub use Rattle.ls_meaning.specs.{command_effect}
pub use Rattle.ls_meaning.specs.declared.response.Response.{Response}
pub use Rattle.ls_meaning.specs.declared.response.Response.TheVariants.{Refused}
pub use Rattle.ls_resolve.specs.{ResolvesInMemory}
pub use Rattle.ls_room.proofs.Saying.{wrote}
pub use Rattle.ls_write.specs.Showing.{CanSay, session_with}
