-- The words that the proofs of this crate cite, passed on from one place.
pub use Rattle.std.proofs.Common.{◌&&◌, ◌*◌, ◌++◌, ◌+◌, ◌-◌, ◌<◌, ◌||◌, ◌↔◌, ◌∙◌, ◌∷◌, ◌≡◌, ◌≢◌, ◌≤◌, ◌⊎◌, Bool, List, None, Some, ℕ, [], ap, ap₂, arith, cond, eq-eqb, eqb, eqb-true, false, filter, find, inl, inr, le-ltb, leb, length, length-append, lt-ltb, ltb, ltb-true, map, max, ne_eqb, not, refl, slice_get, subst, suc, sym, true, true≢false, zero, zero-add}
pub use Rattle.std.proofs.Math.Bool.{and_assoc}
pub use Rattle.std.proofs.lemmas.Bool.{and_cases, and_from, and_parts, cases_Bool, cases_eq, cases_lt, false_from_ne_true, le-leb, not-false, not-true, not_from_false, or_cases, or_from, or_left, or_parts, or_right, true_from_ne_false}
pub use Rattle.std.proofs.lemmas.Bool.Decides.{nat_tests}
pub use Rattle.std.proofs.lemmas.List.Elements.{filter-append, filter_agree}
pub use Rattle.std.proofs.lemmas.List.Folds.{list_all-append, list_all-map, list_any-append}
pub use Rattle.std.specs.List.{AllByRecursion, flat_map, list_all, list_any}
pub use Rattle.std.specs.List.Sorted.{IsStrictlyIncreasing}
pub use Rattle.std.specs.Prelude.{option_map, slice_index, slice_index_or, sum_by, unwrap_or}
pub use Rattle.ls_lists.proofs.Bools.{absorbed_last, back_in, both_out, left_out, no_common, none_common, not_both_ways, outside, same_truth}
pub use Rattle.ls_lists.proofs.Elements.{each-in, in-filter, in-flat_map, in-map, in-some}
pub use Rattle.ls_lists.proofs.Every.{All-append, All-filter, All-kept, All-list_all, All-map, All-to, each, list_all-All, list_all-filter, list_all-kept, list_any-map, some_of}
pub use Rattle.ls_lists.proofs.Filters.{All-none, filter-both, filter-map, filter-parts, filter_true}
pub use Rattle.ls_lists.proofs.Finds.{find-is_none, find-nothing, find-some}
pub use Rattle.ls_lists.proofs.Sorted.{increasing-from, rising-from, tail-increasing}
pub use Rattle.ls_lists.specs.Lists.{IsIn, IsRising}
pub use Rattle.ls_set.proofs.Ascending.{bound-has, has-above, least-cases}
pub use Rattle.ls_set.proofs.Members.{Each-among, among-append, among-cases, among-filter, among-here, among-there}
pub use Rattle.ls_set.proofs.Order.{among-subsets, comes_before-asymmetric, comes_before-irreflexive, subsets_from-in_order}
pub use Rattle.ls_set.proofs.Sets.{Decides-is_same, IsWithin-from, and-true, empty-within, has-empty, has-full, has-meet, has-minus, has-single, has-union, has-with, is_within-from, members, minus-within, same_set, same_within, union-left, union-right, union-within}
pub use Rattle.ls_set.proofs.Sizes.{filter-none, len-below, len-less, len-within}
pub use Rattle.ls_set.specs.{IsInOrder, IsWithin, Items, comes_before, differing, full, has, is_among, is_good, is_same, is_within, meet, minus, numbers_from, set_of, single, subsets, union, with, without}
unfoldable pub use Rattle.ls_set.specs.{bound, empty, items, least, len}
pub use Rattle.ls_set.specs.declared.query.Query.{Query}
pub use Rattle.ls_theory.specs.{Free, Interview, Sets, Start, accepted, atom_items, begun, breaks, breaks_none, by, closure, compatible_sets, double_atom, factor, fits, graded_verdict, half_split, has_share, is_atom_at, is_compatible, is_forced_no, is_forced_yes, is_learning_space, is_open, is_space, is_union_closed, mass, meets, neighbours, no_queries, nos, pairs, projection, retracted, some_breaks, spaces_of, sublists, total, unclosed_pair, unions, with_base, yes_queries}
unfoldable pub use Rattle.ls_theory.specs.{asked, base, blocks, compat, families, fitting_spaces, inner_fringe, interior, is_joined, is_settled, is_well_graded, known, next_question, outer_fringe, queries, state_of, verdict, weight}
pub use Rattle.ls_theory.specs.declared.answer.Answer.{Answer}
pub use Rattle.ls_theory.specs.declared.no.No.{No}
pub use Rattle.ls_laws.specs.Families.{IsFamily, IsUnionClosed}
pub use Rattle.ls_laws.specs.Forced.{FitsAnswers, IsNumbered, IsSound, SomeFits, is_forced_by, is_forced_by_closures, known_by_closures}
pub use Rattle.ls_laws.specs.Spans.{AreOn, IsPart, Spans, is_double, is_proper, joins, left_by, touches}
unfoldable pub use Rattle.ls_laws.specs.Spans.{after_yes, needed, spanned}
pub use Rattle.ls_laws.specs.Walks.{IsWellGraded, LeadsTo}
