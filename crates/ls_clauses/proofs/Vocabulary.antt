-- The words that the proofs of this crate cite, passed on from one place.
unfoldable pub use Rattle.ls_laws.specs.Spans.{needed, spanned}
unfoldable pub use Rattle.ls_set.specs.{bound, comes_before, differing, empty, full, has, is_same, is_within, items, least, len, meet, minus, single, union, with, without}
unfoldable pub use Rattle.ls_theory.specs.{base, compat, flaw, interior}
unfoldable pub use Rattle.ls_theory.specs.{state_of, verdict}
pub use Rattle.std.proofs.Common.{◌&&◌, ◌+◌, ◌-◌, ◌<◌, ◌==◌, ◌↔◌, ◌∙◌, ◌∷◌, ◌≡◌, ◌≢◌, ◌≤◌, Err}
pub use Rattle.std.proofs.Common.{List, None, Ok, Option, Result, Some, ℕ, [], ap, ap₂, arith}
pub use Rattle.std.proofs.Common.{cond, false, find, get_or, inl, inr, is_ok, length, lt-ltb}
pub use Rattle.std.proofs.Common.{ltb, ltb-true, map, ne_eqb, not, option_map, refl, subst, suc}
pub use Rattle.std.proofs.Common.{sym, true, true≢false, zero, ◌++◌, ◌||◌, ◌⊎◌, Bool}
pub use Rattle.std.proofs.Common.{append_assoc, filter, max, nat_lt, slice_index, unwrap_or}
pub use Rattle.std.proofs.lemmas.Bool.{and_from, and_parts, cases_Bool, cases_eq, cases_lt}
pub use Rattle.std.proofs.lemmas.Bool.{cases_order, false_from_ne_true, not-false, not_from_true}
pub use Rattle.std.proofs.lemmas.Bool.{or_cases, or_left, or_right, not-true, not_from_false}
pub use Rattle.std.proofs.lemmas.List.{get_or_default, same_lists}
pub use Rattle.std.specs.Option.{option_map_or, option_or}
pub use Rattle.std.specs.declared.cmp.Ordering.TheVariants.{Equal, Greater, Less}
pub use Rattle.ls_laws.proofs.Atoms.{IsAtom, IsAtom-from, among-base, atom_within, base-atom}
pub use Rattle.ls_laws.proofs.Atoms.{base-member, is_atom_at-from, base-spans}
pub use Rattle.ls_laws.proofs.BaseStarts.{compat-sets}
pub use Rattle.ls_laws.proofs.Compat.{all-items, among-compat, compat-IsUnionFamily}
pub use Rattle.ls_laws.proofs.Compat.{compat-in_order, compat-space, items-all}
pub use Rattle.ls_laws.proofs.Families.{compat-IsFamily, spanned-IsFamily}
pub use Rattle.ls_laws.proofs.Interiors.{from-interior, has-unions, interior-is, interior-member}
pub use Rattle.ls_laws.proofs.Interiors.{interior-whole, interior_again, interior_grows}
pub use Rattle.ls_laws.proofs.Interiors.{to-interior, closed-from, closed-to, space-to}
pub use Rattle.ls_laws.proofs.Lists.{IsInOrder-filter, same_members, some-among, some-from}
pub use Rattle.ls_laws.proofs.Lists.{every-among, every-from, find-none}
pub use Rattle.ls_laws.proofs.Spans.{among-spanned, base-in_order, base-needed, spanned-has}
pub use Rattle.ls_laws.proofs.Spans.{spanned-in_order, spanned-whole, base-of, spanned-same}
pub use Rattle.ls_laws.specs.Spans.{AreOn, IsPart, Spans, is_double, is_proper, touches}
pub use Rattle.ls_laws.specs.Spans.{union_below}
pub use Rattle.ls_lists.proofs.Bools.{same_truth}
pub use Rattle.ls_set.proofs.Ascending.{least-cases, least-none}
pub use Rattle.ls_set.proofs.Members.{Each-among, among-append, among-cases, among-filter}
pub use Rattle.ls_set.proofs.Members.{among-here, among-there}
pub use Rattle.ls_set.proofs.Order.{comes_before-asymmetric, comes_before-irreflexive}
pub use Rattle.ls_set.proofs.Order.{comes_before-transitive, order_cases, among-subsets}
pub use Rattle.ls_set.proofs.Order.{comes_before-at, subsets_from-in_order}
pub use Rattle.ls_set.proofs.Sets.{Decides-is_same, IsWithin-from, has-full, has-minus}
pub use Rattle.ls_set.proofs.Sets.{is_within-from, members, same_within, without-within}
pub use Rattle.ls_set.proofs.Sets.{both_ways, has-empty, has-meet, same_set, union-empty_right}
pub use Rattle.ls_set.proofs.Sets.{union-left, union-right, union_assoc}
pub use Rattle.ls_set.specs.{IsInOrder, IsWithin, Items, is_among, is_good, numbers_from, subsets}
pub use Rattle.ls_set.specs.declared.query.Query.{Query}
pub use Rattle.ls_theory.specs.{Sets, all_clauses, are_comparable, atoms_at, based, begun}
pub use Rattle.ls_theory.specs.{breaks_none, clause_at, clauses_at, clauses_of, comparable_at}
pub use Rattle.ls_theory.specs.{comparable_in, first_missing, first_some, has_clause_within}
pub use Rattle.ls_theory.specs.{is_atom_at, is_compatible, is_space, lacking_in, limited}
pub use Rattle.ls_theory.specs.{most_base_sets, no_clause, places_after, places_of, unclosed_at}
pub use Rattle.ls_theory.specs.{unclosed_in, unions, atom_items, base_verdict, double_atom}
pub use Rattle.ls_theory.specs.{inner_fringe, is_union_closed, is_well_graded, outer_fringe}
pub use Rattle.ls_theory.specs.{pairs, projection, unclosed_pair, verdict_from, with_base}
pub use Rattle.ls_theory.specs.Starts.{Clauses, meets}
pub use Rattle.ls_theory.specs.declared.surmise_fault.SurmiseFault.TheVariants.{Comparable}
pub use Rattle.ls_theory.specs.declared.surmise_fault.SurmiseFault.TheVariants.{NoClause}
pub use Rattle.ls_theory.specs.declared.surmise_fault.SurmiseFault.TheVariants.{NotClosed}
pub use Rattle.ls_theory.specs.declared.surmise_fault.SurmiseFault.TheVariants.{Reflexive}
pub use Rattle.ls_clauses.specs.Orderings.{order_of}
pub use Rattle.ls_clauses.specs.Starts.{IsCover, IsStart}
pub use Rattle.ls_clauses.specs.Surmise.{IsPutInOrder, IsSurmise}
pub use Rattle.std.proofs.lemmas.List.Elements.{filter_agree}
pub use Rattle.std.specs.List.{list_all, list_any}
pub use Rattle.ls_laws.proofs.Counts.{len-zero, some_item}
pub use Rattle.ls_laws.proofs.Judged.{closed-pair, double-found, graded-space, verdict-space}
pub use Rattle.ls_laws.proofs.Projecting.{projection-from}
pub use Rattle.ls_set.proofs.Sizes.{items-below}
pub use Rattle.ls_theory.specs.declared.verdict.BaseVerdict.{BaseVerdict}
pub use Rattle.ls_clauses.specs.Unions.{IsGrown, first_partner, is_apart, is_closed_with}
pub use Rattle.ls_clauses.specs.Unions.{is_missing, lacks_apart, unclosed_pair_by}
