-- The words that the proofs of this crate cite, passed on from one place.
pub use Rattle.std.proofs.Common.{◌&&◌, ◌++◌, ◌+◌, ◌-◌, ◌<◌, ◌==◌, ◌^◌, ◌||◌, ◌∙◌, ◌∷◌, ◌≡◌, ◌≤◌, ◌⊎◌, Bool, Err, IfSome, List, None, Result, Some, ℕ, [], ap, ap₂, arith, bytes_eq, codes, cond, drop, false, filter, get_or, inl, inr, is_some, le-ltb, length, length-take, lt-ltb, ltb, nat_eq, nat_le, nat_lt, not, refl, rules, slice_index, subst, suc, sym, take, tests, true, unwrap_or, zero}
pub use Rattle.std.proofs.lemmas.Bool.{and_parts, cases_lt, false_from_ne_true, leb-true, ltb-true}
pub use Rattle.std.proofs.lemmas.Bool.Decides.{nat_tests}
pub use Rattle.std.proofs.lemmas.Iterator.{YieldsList-from_slice}
pub use Rattle.std.proofs.lemmas.Iterator.Search.{all_from_yields_List, find_from_yields_List}
pub use Rattle.std.proofs.lemmas.List.{append-nil, append_assoc, drop_more, length-append}
pub use Rattle.std.proofs.lemmas.List.Folds.{list_all-append}
pub use Rattle.std.proofs.lemmas.List.Sums.{position_or_len_is}
pub use Rattle.std.proofs.lemmas.Str.{IsUtf8-from_ascii}
pub use Rattle.std.specs.Cmp.Lexicographic.{same_text}
pub use Rattle.std.specs.Fmt.{decimal}
pub use Rattle.std.specs.List.{list_all, onto_first, position, position_or_len, slice_range, slice_split}
pub use Rattle.std.specs.Option.{option_eq}
pub use Rattle.std.specs.Str.{IsAscii}
pub use Rattle.ls_lists.proofs.Bools.{never}
pub use Rattle.ls_cutting.specs.Kinds.{greatest_number, is_cursor_byte, is_from_to, is_name_byte, is_name_up_to, longest_file_name, longest_name, most_counted}
unfoldable pub use Rattle.ls_cutting.specs.Kinds.{is_of}
pub use Rattle.ls_cutting.specs.Lines.{Text, is_blank, is_note, parts_words, runs, spaced, without_return, words_joined}
unfoldable pub use Rattle.ls_cutting.specs.Lines.{lines, words}
pub use Rattle.ls_cutting.specs.Numbers.{is_decimal, is_digit, number_up_to}
pub use Rattle.ls_cutting.specs.declared.kind.Kind.{Kind}
