-- The words that the proofs of this crate cite, passed on from one place.
pub use Rattle.std.proofs.Common.{◌&&◌, ◌*◌, ◌++◌, ◌+◌, ◌-◌, ◌<◌, ◌||◌, ◌↔◌, ◌∙◌, ◌∷◌, ◌≡◌, ◌≤◌, ◌⊎◌, Bool, List, None, Option, Some, ℕ, [], add-one, ap, ap₂, arith, cond, drop, eq-eqb, eqb, eqb-true, false, filter, find, get_or, inl, inr, le-leb, leb, leb-true, length, lt-ltb, ltb, ltb-false, ltb-true, map, min, nat_eq, nat_lt, not, refl, rules, set, slice_get, subst, suc, sym, take, take_at, true, true≢false, zero, zero-add}
pub use Rattle.std.proofs.Math.Bool.{and_assoc}
pub use Rattle.std.proofs.lemmas.Bool.{and_from, and_parts, cases_Bool, cases_lt, false_from_ne_true, not-false, not-true, not_from_false, or_cases, or_left, or_parts, or_right, true_from_ne_false}
pub use Rattle.std.proofs.lemmas.Bool.Decides.{nat_tests}
pub use Rattle.std.proofs.lemmas.Fn.{filter_same}
pub use Rattle.std.proofs.lemmas.Grind.{common_steps, drop_more_same}
pub use Rattle.std.proofs.lemmas.List.{at_drop_all, length-map}
pub use Rattle.std.proofs.lemmas.List.Folds.{list_all-append, list_all-map, list_all_at}
pub use Rattle.std.proofs.lemmas.Option.{slice_get-get_or, slice_get_past}
pub use Rattle.std.specs.List.{count_by, list_all, list_any, position}
pub use Rattle.std.specs.Option.{is_some, option_map, option_map_or, unwrap_or}
pub use Rattle.ls_interior.specs.Keeping.{interior_keeping}
pub use Rattle.ls_laws.proofs.Answering.{forced_no_by, forced_yes_is, known_is}
pub use Rattle.ls_laws.proofs.Breaks.{Breaks-from, IsGood, among-left, full-unbroken, good-from, good-to}
pub use Rattle.ls_laws.proofs.ClosureChanges.{closure_again, closure_before_yes, closure_from_old, closure_grows, closure_holds, closure_widens, left-IsPart, minus_shrinks}
pub use Rattle.ls_laws.proofs.Closures.{closure_stays, has-closure, kept_is}
pub use Rattle.ls_laws.proofs.Counts.{len-empty, some_item}
pub use Rattle.ls_laws.proofs.Families.{family_sets}
pub use Rattle.ls_laws.proofs.Interiors.{IsUnionFamily, family-from, interior-greatest, interior-is, interior-member, interior-within, interior_again, interior_grows, is_within-interior, space-from, space-to}
pub use Rattle.ls_laws.specs.Families.{IsFamily}
pub use Rattle.ls_laws.specs.Forced.{IsNumbered, IsSound, is_forced_by, is_forced_by_closures}
pub use Rattle.ls_laws.specs.Spans.{IsPart, left_by}
pub use Rattle.ls_lists.proofs.Bools.{both_out, same_truth}
pub use Rattle.ls_lists.proofs.Elements.{filter-in, get-in}
pub use Rattle.ls_lists.proofs.Every.{All-filter, All-kept, All-list_all, All-to, each, list_all-All, list_all-filter, list_all-set, list_any-map}
pub use Rattle.ls_lists.proofs.Overwriting.{all-at, count-next, images-at, images-end, images-next, left-at, left-next}
pub use Rattle.ls_lists.proofs.Places.{drop-next, get-map, is_some-position, mapped-next, position-lt, take-none}
pub use Rattle.ls_lists.proofs.Sorted.{find-first, find-next, find-same, tail-increasing}
pub use Rattle.ls_lists.specs.Lists.{IsIn, images}
pub use Rattle.ls_query.proofs.BlockSets.{blocks-in, first-blocks, sorted-blocks}
pub use Rattle.ls_query.proofs.Passing.{ArePassing, first-passing, good_items, next-passing, none-passing, passing-all, passing-end, passing-later, passing-outside}
pub use Rattle.ls_query.proofs.Placed.{block_place, get-append_left, position-at, position-get}
pub use Rattle.ls_query.proofs.QuerySets.{asked_of, before-by_item, before-by_set, least-none_left, never_before, queries-in, query_before-asymmetric, query_before-cases, sorted-queries}
pub use Rattle.ls_query.specs.Blocks.{block_queries, block_sets}
pub use Rattle.ls_set.proofs.Ascending.{least-cases, least-none}
pub use Rattle.ls_set.proofs.Sets.{Decides-is_same, IsWithin-from, and-true, empty-within, has-empty, has-full, has-meet, has-minus, has-single, has-with, has-without, is_within-from, members, minus-within, same_set, same_within, union-within, without-within}
pub use Rattle.ls_set.proofs.Sizes.{items-within, len-less, len-within}
pub use Rattle.ls_set.specs.{IsInOrder, IsWithin, Items, empty, full, has, is_among, is_good, is_same, is_within, least, meet, minus, numbers_from, single, with, without}
unfoldable pub use Rattle.ls_set.specs.{len}
pub use Rattle.ls_set.specs.declared.query.Query.{Query}
pub use Rattle.ls_theory.specs.{BlockRange, Interview, block_before, breaks, closure, comes_after, compatible_sets, first_least, interior, is_forced_no, is_forced_yes, is_open, is_space, known, no_queries, nos, queries, query_before, some_breaks, spaces_of, sublists}
unfoldable pub use Rattle.ls_theory.specs.{blocks, next_question}
pub use Rattle.ls_theory.specs.declared.known.Known.{Known}
pub use Rattle.ls_theory.specs.declared.no.No.{No}
pub use Rattle.ls_infer.specs.Changes.{IsChange, can_change, can_grow, is_kept, is_stale, most_steps_each}
pub use Rattle.ls_infer.specs.BlockClosures.{AreFirst, IsKeptClosure}
pub use Rattle.ls_infer.specs.Narrowing.{IsNarrowed, owed}
pub use Rattle.ls_infer.specs.Search.{IsSearch, is_open_by, looked_at, outside_of}
pub use Rattle.ls_infer.specs.Tables.{AreStates, IsKeptFor, TableRoom, TableState, closed_of, enough_for, forces, is_open_in, standing, table_of, told}
pub use Rattle.ls_infer.specs.declared.standing_no.StandingNo.{StandingNo}
pub use Rattle.ls_infer.specs.declared.yes_change.YesChange.{YesChange}
