-- The words that the proofs of this crate cite, passed on from one place.
unfoldable pub use Rattle.ls_theory.specs.{leader, weight}
unfoldable pub use Rattle.ls_weight.specs.Sums.{sum_below}
pub use Rattle.std.proofs.Common.{◌%◌, ◌&&◌, ◌*◌, ◌++◌, ◌+◌, ◌-◌, ◌/◌, ◌<◌, ◌^◌, ◌∙◌, ◌∷◌, ◌≡◌}
pub use Rattle.std.proofs.Common.{◌≤◌, Bool, List, Some, ℕ, [], add-one, ap, ap₂, arith, cond}
pub use Rattle.std.proofs.Common.{count_by, drop, eqb, eqb-true, false, find, get_or, inl, inr}
pub use Rattle.std.proofs.Common.{length, map, nat_le, nat_lt, not, refl, replicate, set}
pub use Rattle.std.proofs.Common.{slice_get, slice_index, subst, suc, sum, sum_by, sym, take}
pub use Rattle.std.proofs.Common.{true, true≢false, zero, None, fold, ltb, max, rules, tests}
pub use Rattle.std.proofs.Common.{unwrap_or}
pub use Rattle.std.proofs.Math.Nat.{add-mul, mul-add, mul-le-mul_left, mul-le-mul_right}
pub use Rattle.std.proofs.Math.Nat.{mul-lt-mul_of_pos_right, mul-one, mul-zero, mul_comm}
pub use Rattle.std.proofs.Math.Nat.{one-le-mul, pow-suc, pow-succ', pow-zero}
pub use Rattle.std.proofs.lemmas.Bool.{and_parts, cases_Bool, cases_lt, and_from, le-ltb, lt-ltb}
pub use Rattle.std.proofs.lemmas.Bool.{ltb-false}
pub use Rattle.std.proofs.lemmas.Bool.Decides.{nat_tests}
pub use Rattle.std.proofs.lemmas.List.{get_or-drop, get_or-map, get_or-replicate}
pub use Rattle.std.proofs.lemmas.List.{get_or-set_other, get_or-set_same, get_or-take}
pub use Rattle.std.proofs.lemmas.List.{get_or_default, get_or_past, length-append, length-drop}
pub use Rattle.std.proofs.lemmas.List.{length-map, length-replicate, length-take, map-set}
pub use Rattle.std.proofs.lemmas.List.{with_items_is}
pub use Rattle.std.proofs.lemmas.List.FromFn.{get_or-map-range_with_len}
pub use Rattle.std.proofs.lemmas.List.FromFn.{length-map-range_with_len}
pub use Rattle.std.proofs.lemmas.List.Sums.{get_or-le-sum_by, sum_by-cons}
pub use Rattle.std.specs.Int.{bit_at}
pub use Rattle.std.specs.List.{All, IsFirstMaxByKey, list_all, range_with_len}
pub use Rattle.ls_laws.proofs.Weights.{mass-sum, weight-more}
pub use Rattle.ls_set.specs.{Items, empty, full, has, is_among, is_within, most_items}
pub use Rattle.ls_set.specs.{numbers_from}
pub use Rattle.ls_theory.specs.{agrees, factor, first_greatest, is_ratio, mass, ratio_for, total}
pub use Rattle.ls_theory.specs.{are_ratios, greatest, no_ratios}
pub use Rattle.ls_theory.specs.declared.ratio.Ratio.{Ratio}
pub use Rattle.ls_theory.specs.declared.ratio.Ratios.{Ratios}
pub use Rattle.ls_theory.specs.declared.reply.Reply.{Reply}
pub use Rattle.ls_weight.specs.Rows.{AreColumns, AreRows, IsColumn, IsFirstFrom, IsRest}
pub use Rattle.ls_weight.specs.Rows.{StateList, agreeing_with, agrees_at, agrees_in, cell_of}
pub use Rattle.ls_weight.specs.Rows.{has_in, is_marked, row_at, state_at, width_of, words_of}
pub use Rattle.ls_weight.specs.Sums.{cells_with, table_cells}
pub use Rattle.ls_weight.specs.Weighings.{AreKeptSums, IsWeighable, KeptSums, Weighing}
pub use Rattle.std.proofs.lemmas.Nat.{mul-le}
