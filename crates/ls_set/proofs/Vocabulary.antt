-- The words that the proofs of this crate cite, passed on from one place.
pub use Rattle.std.proofs.Common.{◌%◌, ◌&&◌, ◌*◌, ◌++◌, ◌+◌, ◌-◌, ◌/◌, ◌<◌, ◌^◌, ◌||◌, ◌↔◌, ◌∙◌, ◌∷◌, ◌≡◌, ◌≢◌, ◌≤◌, ◌⊎◌, Bool, Decides, Err, List, None, Ok, Some, ℕ, [], add-one, add-zero, ap, append-nil, ap₂, arith, bit_and, bit_or, bit_xor, codes, cond, div-add-mod', div-lt_iff_lt-mul, div-one, eq-eqb, eqb, eqb-true, false, filter, find, get_or, inl, inr, le-ltb, le_trans, leb, length, length-append, lt-ltb, lt_of_le_of_lt, ltb, ltb-true, map, max, min, mod-lt, nat_lt, ne_eqb, not, one-add, pow-suc, pow_pos, refl, rules, shr-shr, slice_get, slice_index, subst, suc, sym, true, true≢false, zero, zero-add}
pub use Rattle.std.proofs.Math.Bool.{or_assoc}
pub use Rattle.std.proofs.lemmas.Bool.{agree_below_at, and_from, and_parts, cases_Bool, cases_eq, cases_lt, cases_order, eqb-false, false_from_ne_true, le-leb, ltb-false, not-false, not-true, or_cases, or_left, or_right}
pub use Rattle.std.proofs.lemmas.Bool.Decides.{nat_tests}
pub use Rattle.std.proofs.lemmas.Grind.{get_or-set_at, same_number_lists}
pub use Rattle.std.proofs.lemmas.List.Elements.{All-contains, filter-append, filter_passes}
pub use Rattle.std.proofs.lemmas.Nat.{and_block, and_mask, or_block, xor_block}
pub use Rattle.std.proofs.lemmas.Nat.Bits.{bit_at-lt, bit_at-pow_other, bit_at-pow_same, bit_at-suc, bit_at-trailing_zeros, bit_at-zero, bit_at_above, bit_at_and, bit_at_cat_high, bit_at_cat_low, bit_at_ones, bit_at_ones_above, bit_at_or, bit_at_xor, same_from_bits}
pub use Rattle.std.specs.Int.{bit_at}
pub use Rattle.std.specs.List.{All, AllByRecursion, Contains, list_any, position_or_len}
pub use lib.Count.{ones_cat, ones_step}
unfoldable pub use lib.Count.{ones, ones_in}
pub use Rattle.ls_lists.proofs.Places.{first_within, no_first}
pub use Rattle.ls_set.specs.Cursor.{bit_of, cursor_length, digit_value, digits_have, hex, is_hex, nibble_of}
unfoldable pub use Rattle.ls_set.specs.Cursor.{cursor, cursor_set, read_cursor}
pub use Rattle.ls_set.specs.ItemSet.{DiffersFirstAt, IsInOrder, IsWithin, Items, digit_count, has_some, is_among, numbers_from, set_of, subsets, subsets_from}
unfoldable pub use Rattle.ls_set.specs.ItemSet.{bound, comes_before, differing, empty, full, has, is_same, is_within, items, keep_before, least, len, meet, minus, next_item, single, union, with, without}
pub use Rattle.ls_set.specs.Lanes.{AreLanes, AreShort, IsLowest, as_set, digits_at, digits_up_to, joined, lane_at, lane_numbers, lanes_up_to, set_of_lanes}
unfoldable pub use Rattle.ls_set.specs.Lanes.{cat}
pub use Rattle.ls_set.specs.declared.cursor.CursorFault.TheVariants.{Digit, Length, Spare}
