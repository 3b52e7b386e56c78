-- The words that the proofs of this crate cite, passed on from one place.
pub use Rattle.std.proofs.Common.{◌%◌, ◌&&◌, ◌*◌, ◌++◌, ◌+◌, ◌-◌, ◌<◌, ◌||◌, ◌∙◌, ◌∷◌, ◌≡◌, ◌≢◌, ◌≤◌, Bool, List, None, Option, Some, ℕ, [], add-one, add-zero, ap, append-nil, append_assoc, ap₂, arith, codes, cond, drop, drop-cons, eqb, false, filter, find, get_or, inl, inr, is_some, length, length-append, ltb, ltb-true, map, not, refl, rules, slice_get, subst, suc, sym, take, true, true≢false, zero, zero-add}
pub use Rattle.std.proofs.Math.ListN.{replicate, set}
pub use Rattle.std.proofs.lemmas.Bool.{and_from, and_parts, cases_Bool, false_from_ne_true, not-true, not_from_false, or_left, or_right}
pub use Rattle.std.proofs.lemmas.Bool.Decides.{Decides-eqb, nat_tests}
pub use Rattle.std.proofs.lemmas.List.{get_or-set_other, get_or-set_same, length-map, length-set}
pub use Rattle.std.proofs.lemmas.List.Sums.{count_by-le-length, length-filter, sum_by-cons}
pub use Rattle.std.specs.List.{All, AllByRecursion, flat_map, list_all, list_any, zip}
pub use Rattle.std.specs.Option.{ForSome, option_map, option_map_or}
pub use Rattle.std.specs.Prelude.{IfOk, Result, count_by}
pub use Rattle.ls_laws.proofs.Answering.{FitsIn, forced_no_search, forced_yes_search, no_question}
pub use Rattle.ls_laws.proofs.Breaks.{Breaks-from, breaks-from, good-from, good-to}
pub use Rattle.ls_laws.proofs.Compat.{among-compat, compat-IsUnionFamily, compat-in_order}
pub use Rattle.ls_lists.proofs.Elements.{each-in, filter-in, get-in, in-filter, in-map, in-some}
pub use Rattle.ls_lists.proofs.Every.{All-append, All-filter, All-map, each, list_all-All, some_of}
pub use Rattle.ls_lists.proofs.Finds.{find-any, find-nothing, find-some, found-passes}
pub use Rattle.ls_lists.specs.Lists.{IsIn}
pub use Rattle.ls_query.proofs.QuerySets.{queries-in, query_before-asymmetric, sorted-queries}
pub use Rattle.ls_set.proofs.Sets.{Decides-is_same, IsWithin-from, has-empty, has-full, has-meet, has-single, has-union, has-with, is_within-from}
pub use Rattle.ls_set.specs.{IsInOrder, IsWithin, Items, comes_before, empty, full, has, is_among, is_good, is_same, is_within, items, least, len, meet, numbers_from, single, union, with}
pub use Rattle.ls_set.specs.declared.query.Query.{Query}
pub use Rattle.ls_theory.specs.{BlockRange, Free, Interview, Peak, Start, accepted, base_size, base_verdict, begun, blocks, breaks, breaks_none, comes_after, compat, compatible_sets, is_atom_at, is_compatible, is_forced_no, is_forced_yes, is_full, is_open, is_same_query, is_settled, meets, most_answers, most_base_sets, most_number, no_queries, pairs, query_before, refusal, some_breaks, spaces_of, yes_queries}
unfoldable pub use Rattle.ls_theory.specs.{base, known, next_question, peak, queries}
pub use Rattle.ls_theory.specs.declared.answer.Answer.{Answer}
pub use Rattle.ls_theory.specs.declared.known.Known.{Known}
pub use Rattle.rand_pcg.specs.Lcg.{Lcg}
pub use Rattle.rand_pcg.specs.Pcg.{pcg32}
pub use Rattle.ls_drill.specs.Draws.{KeepsHiddenOrder, IsPair, row}
unfoldable pub use Rattle.ls_drill.specs.Draws.{after_words, drawn, has_chain}
pub use Rattle.ls_drill.specs.Drills.{IsDrill, reply}
unfoldable pub use Rattle.ls_drill.specs.Drills.{after_turn, after_turns, drilled}
pub use Rattle.ls_drill.specs.HiddenOrders.{HiddenOrder, drawn_words, generator_of, implied, item_pairs, most_drilled}
unfoldable pub use Rattle.ls_drill.specs.HiddenOrders.{is_chained, related}
pub use Rattle.ls_drill.specs.Summaries.{counted, is_filled, is_filled_no, is_filled_yes, is_learning, is_no, is_yes, summary_text}
unfoldable pub use Rattle.ls_drill.specs.Summaries.{summed_up}
pub use Rattle.ls_drill.specs.declared.summary.Summary.{Summary}
