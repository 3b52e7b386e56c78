-- The words that the proofs of this crate cite, passed on from one place.
pub use Rattle.std.proofs.Common.{◌&&◌, ◌*◌, ◌++◌, ◌+◌, ◌-◌, ◌<◌, ◌||◌, ◌∙◌, ◌∷◌, ◌≡◌, ◌≤◌, ◌⊎◌, Bool, List, MatchOption, None, Option, Some, ℕ, [], add-one, ap, append_assoc, ap₂, arith, cond, drop, eq-eqb, eqb, false, filter, find, inl, inr, is_some, le-ltb, length, lt-ltb, ltb, ltb-false, ltb-true, nat_lt, not, refl, rules, subst, suc, sum, sym, take, true, true≢false, zero, IfSome}
pub use Rattle.std.proofs.lemmas.Bool.{and_from, and_parts, cases_Bool, cases_eq, cases_order, false_from_ne_true, ne_eqb, not-true, or_cases, or_left, or_right}
pub use Rattle.std.proofs.lemmas.List.{length-drop, take_all}
pub use Rattle.std.specs.List.{AllByRecursion, last_or, slice_get}
pub use Rattle.ls_interior.specs.Keeping.{interior_keeping}
pub use Rattle.ls_laws.proofs.Interiors.{IsInterior, interior-greatest, interior-is, interior-within}
pub use Rattle.ls_laws.specs.Families.{IsFamily}
pub use Rattle.ls_lists.proofs.Bools.{same_truth}
pub use Rattle.ls_lists.proofs.Finds.{find-any, found-holds}
pub use Rattle.ls_set.proofs.Order.{comes_before-asymmetric, comes_before-at, comes_before-irreflexive, comes_before-transitive, differs_first}
pub use Rattle.ls_set.proofs.Sets.{IsWithin-from, has-full, has-keep_before, has-minus, has-union, has-without, is_within-from, keep_before-within, minus-within, same_within, union-within}
pub use Rattle.ls_set.specs.{DiffersFirstAt, IsInOrder, IsWithin, Items, comes_before, full, has, is_among, is_within, keep_before, without}
pub use Rattle.ls_theory.specs.{comes_after, interior, page}
pub use Rattle.ls_enum.specs.Widest.{AreWidest, IsWidest, Serves}
pub use Rattle.ls_enum.specs.declared.widest.WidestMember.{WidestMember}
pub use Rattle.ls_enum.specs.Listings.{NoneFrom, count_before, filled_above, first_after, joined_pages, left_after}
