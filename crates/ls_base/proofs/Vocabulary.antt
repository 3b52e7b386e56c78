-- The words that the proofs of this crate cite, passed on from one place.
pub use Rattle.std.proofs.Common.{Bool, Err, IfSome, IsPermutation, List, None, Ok, Option, Some, [], add-one, ap, ap₂, arith, cond, drop, eq-eqb, eqb, eqb-true, false, filter, find, get_or, inl, inr, le-leb, le-ltb, leb, length, length-append, length-drop, lt-ltb, ltb, ltb-true, map, min, nat_le, ne_eqb, not, option_map, refl, reverse, rules, slice_get, subst, suc, sym, take, true, true≢false, zero, ℕ, ◌&&◌, ◌++◌, ◌+◌, ◌-◌, ◌<◌, ◌||◌, ◌∙◌, ◌∷◌, ◌≡◌, ◌≢◌, ◌≤◌, ◌⊎◌}
pub use Rattle.std.proofs.Math.ListN.{set}
pub use Rattle.std.proofs.lemmas.Bool.{and_from, and_parts, cases_eq, cases_lt, false_from_ne_true, leb-true, ltb-false, not-true, not_from_false, or_cases, or_left, or_right, true_from_ne_false}
pub use Rattle.std.proofs.lemmas.List.{append-nil, drop_all, get_or-set_other, get_or-set_same, get_or_read, length-map, length-reverse, length-set, length-take, length-take-le, reverse-append, take-append-drop, take-append-le, take-take, take_all, take_more, with_items_is}
pub use Rattle.std.proofs.lemmas.List.Elements.{All-append, All-drop, All-filter, All-from_recursion, All-map, All-push, All-set, All-take, All-weaker, filter-append, filter_agree, filter_passes}
pub use Rattle.std.proofs.lemmas.List.Filters.{dedup_is, length-filter_both}
pub use Rattle.std.proofs.lemmas.List.Sorted.{IsPermutation-reverse, answers_always, length_permutation, list_any-IsPermutation}
pub use Rattle.std.proofs.lemmas.Option.{get_or_from_slice_get, slice_get-get_or, slice_get_read, slice_get_within}
pub use Rattle.std.proofs.lemmas.Result.{IfOk-weaker, err_from_is_err_and}
pub use Rattle.std.specs.List.{All, AllByRecursion, dedup, dedup_from, list_all, list_any, range_with_len}
pub use Rattle.std.specs.Option.{option_map_or}
pub use Rattle.ls_laws.specs.LeastSets.{IsBelow, gained, has_none_within, having, joined, least_beside, least_sets, near}
pub use Rattle.ls_laws.proofs.Atoms.{IsAtom-from, among-base, atom_within, base-member, base-spans}
pub use Rattle.ls_laws.proofs.Counts.{as_many, len-one, len-single, len-zero}
pub use Rattle.ls_laws.proofs.Interiors.{IsUnionFamily, from-interior, has-interior, interior-member, interior-whole, interior-within, subsets-IsUnionFamily, to-interior}
pub use Rattle.ls_laws.proofs.Lists.{IsInOrder-filter, every-from, same_members, some-among, some-filter, some-from, some-same}
pub use Rattle.ls_laws.proofs.Spans.{base-in_order, base-needed, base-of, spanned-IsUnionFamily, spanned-base, spanned-has, spanned-in_order, spanned-same, spanned-whole}
pub use Rattle.ls_laws.specs.Spans.{AreOn, IsPart, Spans, is_proper, joins, left_by, spanned, union_below}
unfoldable pub use Rattle.ls_laws.specs.Spans.{needed}
pub use Rattle.ls_lists.proofs.Bools.{beq-cases, beq-same, same_truth}
pub use Rattle.ls_lists.proofs.Every.{list_all-All}
pub use Rattle.ls_lists.proofs.Filters.{filter-all, filter-both}
pub use Rattle.ls_lists.proofs.Places.{drop-next}
pub use Rattle.ls_set.proofs.Ascending.{bound-has, least-cases}
pub use Rattle.ls_set.proofs.Members.{Each-among, among-append, among-cases, among-filter, among-here, among-there}
pub use Rattle.ls_set.proofs.Order.{among-subsets, comes_before-asymmetric, comes_before-at, comes_before-transitive, differs_first, either_first, subsets_from-in_order}
pub use Rattle.ls_set.proofs.Sets.{Decides-is_same, IsWithin-from, has-differing, has-empty, has-full, has-meet, has-minus, has-single, has-union, has-with, has-without, is_within-from, members, same_set, same_within, union-empty_left, union-empty_right, union-left, union-within, union_assoc}
pub use Rattle.ls_set.specs.{IsInOrder, IsWithin, Items, bound, comes_before, differing, empty, full, has, is_among, is_good, is_within, meet, minus, numbers_from, set_of, single, subsets, union, with, without}
unfoldable pub use Rattle.ls_set.specs.{is_same, items, least, len}
pub use Rattle.ls_set.specs.declared.query.Query.{Query}
pub use Rattle.ls_theory.specs.{Peak, Start, atom_items, atoms_at, base, base_size, based, breaks, compat, first_missing, is_atom_at, limited, most_base_sets, some_breaks, unions}
unfoldable pub use Rattle.ls_theory.specs.{interior, peak}
pub use Rattle.ls_base.specs.Bases.{BaseState, IsBaseFault, IsPastOf, base_fault, family, own_items, single_sets}
pub use Rattle.ls_base.specs.Followed.{IsAskable, IsFollowed, IsFollowedBase}
pub use Rattle.ls_base.specs.Gains.{broken_at, broken_in, gained_at, gained_below, is_gained, least_size}
pub use Rattle.ls_base.specs.Trail.{AreAskable, EndsAt, IsEntry, IsTrail, begins_at_none, cut, followed_count, given_up, last_entry}
pub use Rattle.ls_base.specs.declared.followed.Followed.{Followed}
pub use Rattle.ls_base.specs.declared.trail.Entry.{Entry}
pub use Rattle.ls_set.proofs.Sizes.{len-less, len-within}
pub use Rattle.ls_set.proofs.Firsts.{items-none}
