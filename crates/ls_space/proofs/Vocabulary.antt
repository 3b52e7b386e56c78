-- The words that the proofs of this crate cite, passed on from one place.
pub use Rattle.std.proofs.Common.{Bool, List, None, Some, [], ap, append_assoc, ap₂, arith, cond, drop, eqb, eqb-true, false, find, get_or, inl, inr, le-ltb, length, lt-ltb, map, min, nat_lt, not, refl, slice_index, slice_index_or, subst, suc, sym, take, true, true≢false, unwrap_or, zero, ℕ, ◌&&◌, ◌++◌, ◌+◌, ◌-◌, ◌<◌, ◌∙◌, ◌∷◌, ◌≡◌, ◌≤◌, ◌⊎◌}
pub use Rattle.std.proofs.lemmas.Bool.{and_parts, false_from_ne_true, not-true, or_cases, or_left, or_right}
pub use Rattle.std.proofs.lemmas.List.{append-nil, drop_all, get_or_default, get_or_read_under, length-drop, take-append-drop, take_all, take_min, take_more}
pub use Rattle.std.proofs.lemmas.List.FromFn.{get_or-map-range_with_len, length-map-range_with_len}
pub use Rattle.std.specs.List.{list_any, range_with_len}
pub use Rattle.std.specs.Option.{option_map_or, option_or}
pub use Rattle.ls_base.proofs.Below.{interior-through, within-unites}
pub use Rattle.ls_base.proofs.Turns.{IsUnited, united-all, united-none, united-passed, united-taken, united-whole}
pub use Rattle.ls_laws.proofs.Spans.{base-in_order, base-needed, spanned-IsUnionFamily, spanned-has, spanned-in_order}
pub use Rattle.ls_laws.specs.Spans.{IsPart, Spans, needed, spanned, touches, union_below}
pub use Rattle.ls_lists.proofs.Places.{drop-next, no_first}
pub use Rattle.ls_set.proofs.Members.{Each-among, among-append, among-cases, among-here, among-there}
pub use Rattle.ls_set.proofs.Sets.{Decides-is_same, IsWithin-from, has-empty, has-full, has-meet, has-union, has-with, is_within-from, union-left, union-right}
pub use Rattle.ls_set.specs.{IsInOrder, IsWithin, Items, comes_before, empty, full, has, is_among, is_within, items, len, meet, minus, union, with, without}
unfoldable pub use Rattle.ls_set.specs.{is_same, least}
pub use Rattle.ls_clauses.proofs.Below.{base-below}
pub use Rattle.ls_clauses.proofs.Verdicts.{graded-of_base, verdict-by-unions}
pub use Rattle.ls_clauses.specs.Unions.{ComesWith, IsGrown, first_partner, is_apart, is_missing, lacks_apart}
pub use Rattle.ls_clauses.specs.Verdicts.{first_double, graded_by, not_graded, own_by}
pub use Rattle.ls_theory.specs.{base, interior, is_space, unions, with_base}
unfoldable pub use Rattle.ls_theory.specs.{verdict}
pub use Rattle.ls_theory.specs.declared.verdict.BaseVerdict.TheVariants.{Learning, NotGraded}
pub use Rattle.ls_theory.specs.declared.verdict.Verdict.TheVariants.{NoEmpty, NoFull, NotClosed}
pub use Rattle.ls_space.specs.NextSets.{is_union_of_next, next_sets, unions_of_next}
pub use Rattle.ls_space.specs.Together.{AreTogether}
pub use Rattle.ls_laws.proofs.Interiors.{interior-member}
pub use Rattle.ls_base.proofs.Orders.{Each-from}
pub use Rattle.std.proofs.lemmas.Option.{get_or_from_slice_get, slice_get-get_or}
