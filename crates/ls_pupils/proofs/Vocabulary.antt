-- The words that the proofs of this crate cite, passed on from one place.
pub use Rattle.std.proofs.Common.{◌&&◌, ◌++◌, ◌+◌, ◌<◌, ◌==◌, ◌∙◌, ◌∷◌, ◌≡◌, ◌≤◌, Bool, Err, IfOk, List, None, Ok, OnOk, Option, Result, Some, ℕ, [], ap, ap₂, arith, cond, drop, eq-eqb, eqb-true, false, filter, get_or, inl, inr, is_some, le-ltb, length, length-append, map, not, option_map, refl, remove, set, slice_get, subst, suc, sym, take, true, true≢false, unwrap_or, zero}
pub use Rattle.std.proofs.lemmas.Bool.{and_from, and_parts, cases_Bool, le-leb, lt-leb}
pub use Rattle.std.proofs.lemmas.List.{length-map}
pub use Rattle.std.proofs.lemmas.List.Elements.{All-append, All-drop, All-push, All-set, All-take}
pub use Rattle.std.proofs.lemmas.Option.{slice_get-get_or, slice_get_within, unwrap_or-slice_get}
pub use Rattle.std.proofs.lemmas.Result.{IfOk-weaker}
pub use Rattle.std.proofs.lemmas.Slice.Eq.{bytes_eq-Decides, slice_eq-Decides}
pub use Rattle.std.specs.List.{All, list_all, list_any, position}
pub use Rattle.std.specs.Prelude.{Decides, bytes_eq}
pub use Rattle.ls_standing.specs.Starts.{IsStartOn, start_of}
pub use Rattle.ls_laws.proofs.Families.{compat-IsFamily}
pub use Rattle.ls_laws.specs.Families.{IsFamily}
pub use Rattle.ls_lists.proofs.Every.{list_any-map}
pub use Rattle.ls_lists.proofs.Places.{get-map, map-remove, position-here, position-later}
pub use Rattle.ls_meaning.specs.{asked_of, begin_row, changed, close_row, has_name, most_pupils, new_pupil, pupil_with, replied, reply_row, weighing_refusals, with_pupil, question_shown, shown_of}
pub use Rattle.ls_meaning.specs.Sessions.{Pupil}
pub use Rattle.ls_meaning.specs.declared.response.Response.TheVariants.{Agreed, Done, Refused, Shown}
pub use Rattle.ls_set.proofs.Sets.{Decides-is_same}
pub use Rattle.ls_set.specs.{Items, is_good}
unfoldable pub use Rattle.ls_set.specs.{is_same}
pub use Rattle.ls_set.specs.declared.query.Query.{Query}
pub use Rattle.ls_theory.specs.{Interview, Start, asked, breaks_none, compat, compatible_sets, heavy_after, is_same_query, most_states, reply_fault, yes_queries}
pub use Rattle.ls_theory.specs.Settings.{Settings}
pub use Rattle.ls_theory.specs.declared.reply_fault.ReplyFault.{ReplyFault}
pub use Rattle.ls_weight.proofs.Weighable.{family-weighable}
pub use Rattle.ls_weight.specs.Weighings.{Weighing}
pub use Rattle.ls_pupils.specs.Beginning.{IsNewPupil, RefusesHeavy, begun_row}
pub use Rattle.ls_pupils.specs.Cases.{case_name, ArePupils, IsCase, IsOwnCase, pupil_of_case, pupils_of, changed_to}
pub use Rattle.ls_pupils.specs.Own.{have_own_names, is_called}
pub use Rattle.ls_pupils.specs.declared.cases.PupilCase.{PupilCase}
