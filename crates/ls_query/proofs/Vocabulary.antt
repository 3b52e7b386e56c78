-- The words that the proofs of this crate cite, passed on from one place.
pub use Rattle.std.proofs.Common.{◌&&◌, ◌*◌, ◌++◌, ◌+◌, ◌-◌, ◌/◌, ◌<◌, ◌||◌, ◌∙◌, ◌∷◌, ◌≡◌, ◌≢◌, ◌≤◌, ◌⊎◌, Bool, Err, List, MatchOption, None, Ok, Option, Result, Some, ℕ, [], add-one, ap, append-nil, ap₂, arith, cond, eq-eqb, eqb, eqb-true, false, filter, find, get_or, if◌then◌else◌, inl, inr, le-ltb, length, length-append, lt-ltb, ltb, ltb-true, map, max, nat_lt, ne_eqb, not, refl, rules, slice_get, subst, suc, sym, true, true≢false, zero}
pub use Rattle.std.proofs.lemmas.Bool.{and_from, and_left, and_parts, and_right, cases_Bool, cases_eq, cases_lt, cases_order, false_from_ne_true, or_cases, or_left, or_right}
pub use Rattle.std.proofs.lemmas.Bool.Decides.{nat_tests}
pub use Rattle.std.proofs.lemmas.List.{length-map}
pub use Rattle.std.proofs.lemmas.List.Elements.{All-tail, filter_passes}
pub use Rattle.std.specs.List.{All, flat_map, position, prefix_len}
pub use Rattle.std.specs.Option.{option_map_or}
pub use Rattle.ls_laws.proofs.Blocks.{among-in, in-numbers, in-queries, numbers-in}
pub use Rattle.ls_laws.proofs.Breaks.{IsGood, good-from, good-to}
pub use Rattle.ls_laws.proofs.Counts.{len-empty, len-parts, len-single, len-zero}
pub use Rattle.ls_lists.proofs.Bools.{same_truth}
pub use Rattle.ls_lists.proofs.Elements.{each-in, filter-in, flat_map-in, get-in, map-in}
pub use Rattle.ls_lists.proofs.Finds.{find-any, find-filter, slice_get-filter}
pub use Rattle.ls_lists.proofs.Sorted.{find-first, find-is, find-next, find-no_element, find-none_is, find-same, sorted-as, sorted-filter, sorted-flat_map, sorted-map}
pub use Rattle.ls_lists.specs.Lists.{IsIn, IsSorted}
pub use Rattle.ls_set.proofs.Ascending.{bound-has, find_first, find_none, find_some, least-cases}
pub use Rattle.ls_set.proofs.Firsts.{items-least, items-none}
pub use Rattle.ls_set.proofs.Order.{Each-weaker, IsBetween, among-subsets, comes_before-asymmetric, comes_before-at, comes_before-irreflexive, comes_before-transitive, differs_first, subsets_from-between, subsets_from-in_order}
pub use Rattle.ls_set.proofs.Sets.{Decides-is_same, IsWithin-from, and-true, empty-within, has-empty, has-full, has-keep_before, has-minus, has-single, has-union, has-with, has-without, is_within-from, keep_before-within, members, same_set, without-within}
pub use Rattle.ls_set.proofs.Sizes.{items-within, len-less, len-within}
pub use Rattle.ls_set.specs.{DiffersFirstAt, IsInOrder, IsWithin, Items, bound, comes_before, empty, full, has, is_good, is_same, is_within, keep_before, minus, numbers_from, single, subsets, subsets_from, union, with, without}
unfoldable pub use Rattle.ls_set.specs.{items, least, len, next_item}
pub use Rattle.ls_set.specs.declared.query.Query.{Query}
pub use Rattle.ls_theory.specs.{BlockRange, comes_after, is_lex_before, most_sets}
unfoldable pub use Rattle.ls_theory.specs.{block_before, blocks, is_too_wide, made, queries, query_before}
pub use Rattle.ls_theory.specs.declared.block_fault.BlockFault.TheVariants.{BadBlock, TooWide}
pub use Rattle.ls_query.specs.Blocks.{AreBounded, block_sets}
unfoldable pub use Rattle.ls_query.specs.Blocks.{choose}
pub use Rattle.ls_query.specs.Moves.{HasNoMove, IsGreatest, IsLastMove, moved}
pub use Rattle.ls_query.specs.Places.{count_after}
