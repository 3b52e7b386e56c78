-- The words that the proofs of this crate cite, passed on from one place.
pub use Rattle.std.proofs.Common.{◌&&◌, ◌*◌, ◌++◌, ◌+◌, ◌<◌, ◌∙◌, ◌∷◌, ◌≡◌, ◌≤◌, Bool, IfErr, IfOk, IfSome, List, None, Ok, Option, Result, Some, ℕ, [], ap, ap₂, arith, cond, count_by, eqb, false, filter, find, inl, inr, is_some, length, length-append, ltb, map, not, refl, remove, rules, subst, suc, sym, true, true≢false, vec_len, zero}
pub use Rattle.std.proofs.Math.Bool.{and_assoc}
pub use Rattle.std.proofs.lemmas.Bool.{and_from, and_parts, cases_Bool, false_from_ne_true, not-true, not_from_false}
pub use Rattle.std.proofs.lemmas.Bool.Decides.{nat_tests}
pub use Rattle.std.proofs.lemmas.List.{length-map}
pub use Rattle.std.proofs.lemmas.List.Elements.{filter_agree}
pub use Rattle.std.proofs.lemmas.List.Folds.{list_all-append}
pub use Rattle.std.proofs.lemmas.List.Sums.{count_by-le-length, length-filter, sum_by-cons}
pub use Rattle.std.proofs.lemmas.Result.{IfOk-weaker, err_from_is_err_and}
pub use Rattle.std.specs.Bool.{Decides}
pub use Rattle.std.specs.List.{AllByRecursion, list_all, list_any}
unfoldable pub use Rattle.std.specs.List.{IsDistinct}
pub use Rattle.std.specs.Option.{option_map}
pub use Rattle.ls_clauses.proofs.Covers.{start-sound, start-space}
pub use Rattle.ls_clauses.specs.Starts.{IsStart}
pub use Rattle.ls_infer.specs.Tables.{AreStates, IsKeptFor, TableRoom, TableState, standing, table_of}
pub use Rattle.ls_laws.proofs.Accepting.{compatible-no, compatible-yes, no_added, taken_out, yes_added}
pub use Rattle.ls_laws.proofs.Answering.{FitsIn, all_spaces, compatible_fit, forced_no_is, forced_yes_unbroken, no_question, not_both, settles}
pub use Rattle.ls_laws.proofs.Breaks.{among-left_parts, good-to}
pub use Rattle.ls_laws.proofs.Compat.{compat-IsUnionFamily, compat-in_order, compat-more}
pub use Rattle.ls_laws.proofs.Interiors.{space-from}
pub use Rattle.ls_laws.proofs.Numbered.{accepted-numbered, begun-numbered, retracted-numbered}
pub use Rattle.ls_laws.specs.Forced.{IsSound, SomeFits, is_forced_by}
pub use Rattle.ls_laws.specs.Spans.{left_by}
pub use Rattle.ls_lists.proofs.Every.{All-list_all, list_all-All}
pub use Rattle.ls_lists.proofs.Filters.{filter-all, filter-both, filter_true}
pub use Rattle.ls_lists.proofs.Options.{not_first, nothing}
pub use Rattle.ls_lists.proofs.Sorted.{find-is, find-no_element, find-none_is, find-same}
pub use Rattle.ls_lists.specs.Lists.{IsIn, IsSorted}
pub use Rattle.ls_query.proofs.QuerySets.{before-by_item, before-by_set, queries-in, query_before-asymmetric, query_before-cases, sorted-queries}
pub use Rattle.ls_query.specs.Blocks.{block_queries, choose}
pub use Rattle.ls_rules.specs.Ruled.{RuledState}
pub use Rattle.ls_set.proofs.Sets.{and-true}
pub use Rattle.ls_set.specs.{Items, full, is_among, is_good, is_within, subsets}
pub use Rattle.ls_set.specs.declared.query.Query.{Query}
pub use Rattle.ls_theory.specs.{BlockRange, Interview, accepted, answer_with, begun, block_before, blocks, breaks, breaks_none, closure, comes_after, compatible_sets, first_fault, is_compatible, is_forced_no, is_forced_yes, is_full, is_open, is_same_query, is_settled, meets, most_answers, most_number, most_sets, no_queries, nos, opposed, queries, query_before, refusal, retracted, some_breaks, spaces_of, standing_number, yes_queries}
unfoldable pub use Rattle.ls_theory.specs.{compat, known, made, next_question}
pub use Rattle.ls_theory.specs.declared.answer.Answer.{Answer}
pub use Rattle.ls_theory.specs.declared.block_fault.BlockFault.{BlockFault}
pub use Rattle.ls_theory.specs.declared.no.No.{No}
pub use Rattle.ls_standing.specs.Standing.{IsStanding, interview_on, rules_before}
pub use Rattle.ls_expert.specs.Held.{IsHeld, IsInquiry, IsTabled, NoneBefore, PlaceFor, blocks_of, interview_of, single_items}
pub use Rattle.ls_expert.specs.Saved.{IsStandingFault, IsTableFault, are_broken, can_fit}
pub use Rattle.ls_standing.specs.Starts.{StartOn, start_of}
