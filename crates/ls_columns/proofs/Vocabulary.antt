-- The words that the proofs of this crate cite, passed on from one place.
pub use Rattle.std.proofs.Common.{◌&&◌, ◌+◌, ◌<◌, ◌||◌, ◌++◌, ◌∙◌, ◌∷◌, ◌≡◌, ◌≢◌, ◌≤◌, ◌⊎◌, Bool, List, None, Option, Some, ℕ, [], add-one, ap, ap₂, arith, cond, drop, drop-cons, eq-eqb, false, filter, get_or, inl, inr, length, length-set, length-take-le, lt-ltb, ltb, ltb-true, map, not, refl, replicate, set, slice_get, subst, suc, sym, take, true, true≢false, zero}
pub use Rattle.std.proofs.lemmas.Bool.{and_from, and_parts, cases_Bool, cases_eq, false_from_ne_true, not-true, not_from_false, or_cases, or_left, or_right}
pub use Rattle.std.proofs.lemmas.Bool.Decides.{nat_tests}
pub use Rattle.std.proofs.lemmas.List.{with_items_is, append-nil, append_assoc, drop_all, get_or-replicate, get_or-set_other, get_or-set_same, get_or_default, length-replicate, take-append-drop, take_more}
pub use Rattle.std.proofs.lemmas.Option.{slice_get_read}
pub use Rattle.std.proofs.Math.Bool.{or-false, or_assoc}
pub use Rattle.std.specs.List.{AllByRecursion}
pub use Rattle.std.specs.Option.{option_map_or}
pub use Rattle.ls_interior.specs.Keeping.{interior_keeping}
pub use Rattle.ls_laws.proofs.Breaks.{Breaks-from, breaks-from}
pub use Rattle.ls_laws.proofs.Counts.{some_item, some_missing}
pub use Rattle.ls_laws.proofs.Families.{ruled-IsFamily}
pub use Rattle.ls_laws.proofs.Interiors.{interior-greatest, interior-is, interior-within, is_within-interior}
pub use Rattle.ls_laws.specs.Families.{IsFamily}
pub use Rattle.ls_lists.proofs.Bools.{same_truth}
pub use Rattle.ls_lists.proofs.Elements.{each-in, get-in}
pub use Rattle.ls_lists.proofs.Every.{All-list_all, each, list_all-All}
pub use Rattle.ls_lists.specs.Lists.{IsIn}
pub use Rattle.ls_rules.proofs.Rounds.{common_item, len-without_least, meets_rule, no_item, no_least}
pub use Rattle.ls_rules.specs.Sets.{set_at}
pub use Rattle.ls_set.proofs.Ascending.{least-cases}
pub use Rattle.ls_set.proofs.Members.{among-filter}
pub use Rattle.ls_set.proofs.Order.{Each-both}
pub use Rattle.ls_set.proofs.Sets.{Decides-is_same, IsWithin-from, and-false, has-empty, has-meet, has-minus, has-union, has-with, is_within-from, members, minus-within, union-empty_left, union-empty_right, same_set, same_within, without-within}
pub use Rattle.ls_set.proofs.Sizes.{len-less}
pub use Rattle.ls_set.specs.{IsWithin, Items, empty, full, has, is_among, is_within, meet, minus, most_items, set_of, single, union, with, without}
unfoldable pub use Rattle.ls_set.specs.{is_same, len}
pub use Rattle.ls_set.specs.declared.query.Query.{Query}
pub use Rattle.ls_theory.specs.{breaks, breaks_none, interior}
pub use Rattle.ls_columns.specs.Falling.{FallsWith, IsFalling, fallen_by, falls}
pub use Rattle.ls_columns.specs.Places.{AreColumns, ArePlaces, IsAsked, is_at, meets}
pub use Rattle.ls_columns.specs.Rounds.{Falling, IsApart, Narrows, joined}
