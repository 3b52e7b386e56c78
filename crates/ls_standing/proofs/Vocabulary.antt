-- The words that the proofs of this crate cite, passed on from one place.
pub use Rattle.std.proofs.Common.{◌&&◌, ◌++◌, ◌+◌, ◌-◌, ◌<◌, ◌||◌, ◌∙◌, ◌∷◌, ◌≡◌, ◌≤◌, ◌⊎◌, Bool, List, None, Some, ℕ, [], ap, ap₂, arith, cond, drop, eq-eqb, eqb, false, filter, find, get_or, inl, inr, le-ltb, length, lt-ltb, ltb, ltb-true, map, ne_eqb, not, refl, remove, rules, subst, suc, sym, take, true}
pub use Rattle.std.proofs.Math.Bool.{not-not}
pub use Rattle.std.proofs.lemmas.Bool.{and_from, and_parts, cases_Bool, cases_eq, cases_lt, not-true, not_from_false, or_parts}
pub use Rattle.std.proofs.lemmas.Bool.Decides.{nat_tests}
pub use Rattle.std.proofs.lemmas.List.{drop_all, length-drop, length-map, length-take-le, take-append-le, take-take, take_all, take_more}
pub use Rattle.std.proofs.lemmas.List.Elements.{filter_agree}
pub use Rattle.std.proofs.lemmas.List.Folds.{list_all-map, sum_by-zero}
pub use Rattle.std.proofs.lemmas.List.Sums.{count_by-le-length, length-filter}
pub use Rattle.std.proofs.lemmas.Result.{IfOk-weaker}
pub use Rattle.std.specs.Bool.{Decides}
pub use Rattle.std.specs.List.{AllByRecursion, list_all, list_any}
unfoldable pub use Rattle.std.specs.List.{IsDistinct}
pub use Rattle.std.specs.List.Sorted.{IsPermutation, IsStrictlyIncreasing}
unfoldable pub use Rattle.std.specs.List.Sorted.{IsStrictlySortedBy}
pub use Rattle.ls_base.specs.Bases.{BaseState, family}
pub use Rattle.ls_laws.proofs.Breaks.{good-from}
pub use Rattle.ls_laws.proofs.Compat.{among-compat, compat-more}
pub use Rattle.ls_laws.proofs.Interiors.{interior-member}
pub use Rattle.ls_laws.specs.Forced.{IsNumbered}
pub use Rattle.ls_laws.specs.Spans.{AreOn, left_by, spanned}
pub use Rattle.ls_lists.proofs.Every.{All-filter, All-list_all, each, list_all-All}
pub use Rattle.ls_lists.proofs.Filters.{filter-all, filter-both}
pub use Rattle.ls_lists.proofs.Sorted.{rising-from}
pub use Rattle.ls_lists.specs.Lists.{IsRising}
pub use Rattle.ls_rules.specs.Ruled.{RuledState}
pub use Rattle.ls_set.proofs.Sets.{and-false, and-true, has-full, has-minus, is_within-from, minus-within}
pub use Rattle.ls_set.specs.{IsWithin, Items, full, has, is_among, is_good, is_within, minus, subsets}
pub use Rattle.ls_set.specs.declared.query.Query.{Query}
pub use Rattle.ls_theory.specs.{Interview, accepted, answer_with, base, breaks, breaks_none, interior, is_compatible, is_same_query, meets, no_queries, nos, retracted, some_breaks, yes_queries}
unfoldable pub use Rattle.ls_theory.specs.{compat}
pub use Rattle.ls_theory.specs.declared.answer.Answer.{Answer}
pub use Rattle.ls_theory.specs.declared.no.No.{No}
pub use Rattle.ls_standing.specs.Standing.{rules_before}
pub use Rattle.ls_standing.specs.Starts.{HasItems, StartOn, start_of}
