-- The words that the proofs of this crate cite, passed on from one place.
pub use Rattle.std.proofs.Common.{◌++◌, ◌∙◌, ◌∷◌, ◌≡◌, ◌↔◌, Bool, Err, IsErrOf, List, MatchResult}
pub use Rattle.std.proofs.Common.{None, Ok, Option, Result, Some, Vec, ℕ, [], ap, ap₂, arith}
pub use Rattle.std.proofs.Common.{bytes_eq, cond, false, inl, inr, length, ltb, refl, subst, sym}
pub use Rattle.std.proofs.Common.{take, true}
pub use Rattle.std.specs.declared.alloc.AllocError.{AllocError}
pub use Rattle.ls_base.proofs.Trails.{AreAskable-good, IsTrail-more}
pub use Rattle.ls_base.specs.Trail.{IsTrail}
pub use Rattle.ls_edge.specs.Causes.{one_more}
pub use Rattle.ls_edge.specs.Files.{FetchCause, FetchedFrom, Fetches, Folder, GivesBytes}
pub use Rattle.ls_edge.specs.Files.{FolderStays, longest_file}
pub use Rattle.ls_standing.specs.Standing.{rules_before}
pub use Rattle.ls_cutting.specs.{Text}
pub use Rattle.ls_meaning.specs.{Bytes, Calls, Failed, Fetched, Missing, TooLarge, calls_of}
pub use Rattle.ls_meaning.specs.{fetched_from, file_refusals}
pub use Rattle.ls_meaning.specs.declared.response.Refusal.{Refusal}
pub use Rattle.ls_meaning.specs.declared.response.Refusal.TheVariants.{FileFailed, LargeFile}
pub use Rattle.ls_meaning.specs.declared.response.Refusal.TheVariants.{NoFile}
pub use Rattle.ls_set.specs.declared.query.Query.{Query}
pub use Rattle.ls_theory.specs.{Interview, accepted, answer_with, retracted, yes_queries}
unfoldable pub use Rattle.ls_theory.specs.{base, compat}
pub use Rattle.ls_deciding.specs.Fetches.{AreFetched, FailedLast, GaveBytes, IsFetched, Sees}
pub use Rattle.ls_deciding.specs.Fetches.{SeesFile, SeesFiles, ShelfState, shelf_state}
pub use Rattle.ls_deciding.specs.Changes.{IsTrailOf}
pub use Rattle.std.proofs.lemmas.Result.{IfOk-weaker}
pub use Rattle.ls_set.specs.{Items, full}
pub use Rattle.ls_theory.specs.{Peak, base_verdict, compatible_sets, is_space, projection}
pub use Rattle.ls_theory.specs.declared.verdict.BaseVerdict.{BaseVerdict}
pub use Rattle.ls_laws.proofs.Compat.{compat-in_order}
pub use Rattle.ls_laws.specs.Forced.{IsSound}
pub use Rattle.ls_laws.specs.Spans.{spanned}
pub use Rattle.ls_base.specs.Followed.{IsFollowed, IsFollowedBase}
pub use Rattle.ls_meaning.specs.{◌otherwise◌, based_row, past_refusal, refuse_fault, view_row}
pub use Rattle.ls_meaning.specs.declared.request.View.{View}
pub use Rattle.ls_meaning.specs.declared.response.Response.{Response}
pub use Rattle.ls_deciding.specs.Views.{based_on, is_based}
