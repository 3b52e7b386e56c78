-- The words that the proofs of this crate cite, passed on from one place.
pub use Rattle.std.proofs.Common.{◌&&◌, ◌*◌, ◌++◌, ◌+◌, ◌-◌, ◌<◌, ◌||◌, ◌∙◌, ◌∷◌, ◌≡◌, ◌≢◌, ◌≤◌, ◌⊎◌, All, Bool, List, None, Option, Some, ℕ, [], add-one, add-zero, ap, ap₂, arith, cond, drop, drop-cons, eq-eqb, eqb, eqb-true, false, filter, fold, get_or, inl, inr, le-ltb, length, length-set, lt-ltb, ltb, map, ne_eqb, not, refl, rules, set, slice_get, subst, suc, sym, true, true≢false, unwrap_or, zero, zero-add}
pub use Rattle.std.proofs.lemmas.Bool.{and_from, and_parts, cases_Bool, cases_eq, cases_lt, false_from_ne_true, not-false, not-true, not_from_false}
pub use Rattle.std.proofs.lemmas.Bool.Decides.{nat_tests}
pub use Rattle.std.proofs.lemmas.List.{drop_all, get_or-set_other, get_or-set_same, get_or_default, get_or_past, length-map, map-append, nil_from_length, with_items_is}
pub use Rattle.std.specs.List.{AllByRecursion, list_all, list_any, remove}
pub use Rattle.std.proofs.Math.Bool.{or_assoc}
pub use Rattle.std.specs.Option.{option_map_or}
pub use Rattle.ls_laws.proofs.Breaks.{Breaks-from, IsGood, breaks-from, good-from}
pub use Rattle.ls_laws.proofs.Counts.{len-parts, len-single, len-zero, some_item, some_missing}
pub use Rattle.ls_laws.proofs.Interiors.{IsInterior-interior, interior-greatest, interior-is, interior-within, is_within-interior}
pub use Rattle.ls_laws.proofs.Listed.{in-items}
pub use Rattle.ls_lists.proofs.Elements.{filter-in, in-some, some-in}
pub use Rattle.ls_lists.proofs.Every.{All-append, All-filter, All-kept, All-list_all, All-passing, each, list_all-All, list_all-remove}
pub use Rattle.ls_lists.specs.Lists.{IsIn}
pub use Rattle.ls_set.proofs.Ascending.{least-at, least-cases}
pub use Rattle.ls_set.proofs.Members.{among-filter}
pub use Rattle.ls_set.proofs.Order.{Each-both}
pub use Rattle.ls_set.proofs.Sets.{Decides-is_same, IsWithin-from, and-false, and-true, empty-within, has-empty, has-meet, has-union, has-without, is_within-from, members, minus-within, or-false, same_set, same_within, union-empty_left, union-empty_right, union-left, union-right, without-within}
pub use Rattle.ls_set.proofs.Sizes.{len-less, len-within}
pub use Rattle.ls_set.specs.{IsWithin, Items, bound, empty, full, has, is_among, is_good, is_within, least, meet, minus, most_items, numbers_from, set_of, single, union, with, without}
unfoldable pub use Rattle.ls_set.specs.{is_same, items, len}
pub use Rattle.ls_set.specs.declared.query.Query.{Query}
pub use Rattle.ls_theory.specs.{breaks, breaks_none, interior}
pub use Rattle.ls_rules.specs.Barring.{barred}
pub use Rattle.ls_rules.specs.Followers.{AreFollowed, Grows, IsFollower}
pub use Rattle.ls_rules.specs.Parts.{first_of, several}
pub use Rattle.ls_rules.specs.Places.{Covers, IsIndexOf, PlaceList, least_spare, lower, lowered, no_places, places_at, places_from, spare_at, spare_within}
pub use Rattle.ls_rules.specs.Sets.{set_at}
pub use Rattle.ls_rules.specs.Singles.{AreSingles, CoversSets, asked_alone}
pub use Rattle.ls_rules.specs.Waking.{IsAwake, IsIndexed, NoneKeeps, Settles, Settling, look, look_at, lose_all, lost_with, rules_at, wake}
pub use Rattle.ls_rules.specs.declared.round.Round.{Round}
