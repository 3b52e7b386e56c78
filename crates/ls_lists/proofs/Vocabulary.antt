-- The words that the proofs of this crate cite, passed on from one place.
pub use Rattle.std.proofs.Common.{◌&&◌, ◌++◌, ◌+◌, ◌-◌, ◌<◌, ◌||◌, ◌↔◌, ◌∙◌, ◌∷◌, ◌≡◌, ◌≤◌, ◌⊎◌, All, Bool, Err, IsErr, List, None, Ok, OnErr, OnOk, Option, Result, Some, ℕ, [], add-one, ap, append-nil, append_assoc, ap₂, arith, cond, count_by, drop, eqb, false, filter, find, get_or, inl, inr, is_some, le-ltb, length, length-append, length-drop, lt-ltb, ltb, map, ne_eqb, not, option_map, refl, remove, set, slice_get, slice_range, subst, suc, sum_by, sym, take, true, true≢false, zero}
pub use Rattle.std.proofs.lemmas.Bool.{and_from, and_parts, cases_Bool, cases_lt, false_from_ne_true, not-false, or_cases, or_left, or_parts, or_right, true_from_ne_false}
pub use Rattle.std.proofs.lemmas.Grind.{drop_more_same, flat_map-append}
pub use Rattle.std.proofs.lemmas.List.{drop-append-le, drop-map, drop-set-lt, drop_all, drop_more, get_or-drop, map-append, map_push, take-append-le, take-map, take_more}
pub use Rattle.std.proofs.lemmas.List.Sums.{sum_by-cons, sum_by_more}
pub use Rattle.std.proofs.lemmas.Option.{none-some, same_Some, slice_get-map}
pub use Rattle.std.specs.List.{AllByRecursion, flat_map, join_with_byte, list_all, list_any, position, position_or_len}
pub use Rattle.ls_lists.specs.Lists.{IsIn, IsRising, IsSorted, gap, images, spaced}
unfoldable pub use Rattle.ls_lists.specs.Lists.{shifted}
