-- The words that the proofs of this crate cite, passed on from one place.
pub use Rattle.std.proofs.Common.{◌&&◌, ◌++◌, ◌+◌, ◌-◌, ◌<◌, ◌||◌, ◌∙◌, ◌∷◌, ◌≡◌, ◌≤◌, Bool, List, MatchBool, None, Option, Some, ℕ, [], ap, append-nil, append_assoc, ap₂, arith, cond, drop, eq-eqb, eqb, eqb-true, false, filter, find, get_or, inl, inr, le-ltb, length, lt-ltb, ltb, ltb-true, map, max, ne_eqb, not, option_map, refl, replicate, rules, set, slice_get, subst, suc, sym, take, true, true≢false, unwrap_or, zero}
pub use Rattle.std.proofs.lemmas.Bool.{and_from, and_parts, cases_Bool, cases_eq, cases_lt, cases_order, false_from_ne_true, not_from_false, or_cases, or_left, or_right}
pub use Rattle.std.proofs.lemmas.Bool.Decides.{nat_tests}
pub use Rattle.std.proofs.lemmas.List.{drop-replicate, drop_all, length-append, length-drop, length-replicate, length-set, length-take-le, take_all, take_more_set}
pub use Rattle.std.specs.List.{AllByRecursion, flat_map, list_all, list_any}
pub use Rattle.std.specs.Option.{option_or}
pub use Rattle.ls_laws.proofs.Counts.{len-empty, len-parts, len-single, len-zero, some_item}
pub use Rattle.ls_laws.specs.Spans.{AreOn}
pub use Rattle.ls_lists.proofs.Every.{All-append, All-given, All-map, each}
pub use Rattle.ls_lists.proofs.Filters.{filter-agree, filter-all, filter-both, filter-map}
pub use Rattle.ls_lists.proofs.Finds.{found-holds, found-passes, slice_get-filter}
pub use Rattle.ls_query.proofs.BySize.{len-full, len-with}
pub use Rattle.ls_set.proofs.Ascending.{find-filter, find_none, least-cases}
pub use Rattle.ls_set.proofs.Sets.{Decides-is_same, and-false, and-true, both_ways, has-empty, has-full, has-minus, has-with, members, same_set, union-empty_left, union-empty_right, without-within}
pub use Rattle.ls_set.specs.{IsWithin, Items, bound, empty, full, has, is_among, is_same, items, least, len, minus, next_item, numbers_from, set_of, single, union, with, without}
pub use Rattle.ls_set.specs.declared.item_set.TheConstants.{PLACES}
pub use Rattle.ls_theory.specs.{is_learning_space, is_lex_before, is_order, is_path, is_space}
unfoldable pub use Rattle.ls_theory.specs.{orders_of, paths}
pub use Rattle.ls_paths.specs.Growths.{IsInLexOrder, first_growth, first_next, growths, is_next, next_item_after, next_growth}
pub use Rattle.ls_paths.specs.Left.{paths_left}
pub use Rattle.ls_paths.specs.Levels.{is_fresh, is_grown, is_whole, leaves_below, grown_to}
