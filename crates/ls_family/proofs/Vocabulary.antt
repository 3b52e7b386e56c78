-- The words that the proofs of this crate cite, passed on from one place.
pub use Rattle.std.proofs.Common.{◌&&◌, ◌+◌, ◌<◌, ◌==◌, ◌∙◌, ◌∷◌, ◌≡◌, ◌≤◌, Bool, Bor, Err, List, None, Ok, Option, Result, Some, ℕ, [], ap, ap₂, arith, codes, cond, drop, false, fold, inl, inr, is_some, length, ltb, nat_le, nat_lt, not, refl, rules, subst, suc, sym, take, tests, true, true≢false}
pub use Rattle.std.proofs.lemmas.Bool.{and_from, and_parts, cases_Bool}
pub use Rattle.std.proofs.lemmas.Bool.Decides.{nat_tests}
pub use Rattle.std.proofs.lemmas.Grind.{common_steps}
pub use Rattle.std.proofs.lemmas.Iterator.{YieldsList-from_map, YieldsList-from_slice, items_from_collect}
pub use Rattle.std.proofs.lemmas.Iterator.Consumers.{YieldsList-at, YieldsList-from_filter, YieldsList-from_rest, count_from_yields_List, fold_from_yields_List}
pub use Rattle.std.proofs.lemmas.Iterator.Search.{YieldsList-from_take_while, all_from_yields_List}
pub use Rattle.std.proofs.lemmas.List.{length-drop, map-id, take_rest}
pub use Rattle.std.proofs.lemmas.Option.{none-some, same_Some}
pub use Rattle.std.specs.BTreeMap.{insert_entry, is_at}
pub use Rattle.std.specs.List.{list_all, list_any, position, position_or_len}
pub use Rattle.std.specs.Map.{keys_of, lookup}
pub use Rattle.ls_clauses.specs.Orderings.{order_of}
pub use Rattle.ls_domain.proofs.Numbers.{is_named-none, is_named-some, item_of-some, with-within}
pub use Rattle.ls_domain.specs.Domains.{is_name}
pub use Rattle.ls_domain.specs.Meanings.{first_unnamed, is_named, item_of, items_of, number_of}
pub use Rattle.ls_files.specs.SetFiles.{Found, IsFamilyFault, body_read, inserted, is_passed, most_members, row_found, set_named, until_brace, with_line, with_set, within_braces, words_within}
unfoldable pub use Rattle.ls_files.specs.SetFiles.{found_from, line_read, sets_of}
pub use Rattle.ls_files.specs.declared.family_fault.FamilyFault.{FamilyFault}
pub use Rattle.ls_files.specs.declared.family_fault.FamilyFault.TheVariants.{BadLine, Memory, Repeat, TooMany, UnknownItem}
pub use Rattle.ls_files.specs.declared.set_line.SetLine.{SetLine}
pub use Rattle.ls_files.specs.declared.set_line.SetLine.TheVariants.{Bad, Passed, Set, Unknown}
pub use Rattle.ls_cutting.specs.{Text, is_blank, parts_words, without_return}
unfoldable pub use Rattle.ls_cutting.specs.{is_of, lines}
pub use Rattle.ls_lists.proofs.Places.{is_some-position}
pub use Rattle.ls_set.proofs.Sets.{Decides-is_same, IsWithin-from, empty-within, is_within-from, members, same_set, union-empty_left, union-empty_right}
pub use Rattle.ls_set.specs.{IsInOrder, IsWithin, Items, full, is_among, is_within, set_of}
unfoldable pub use Rattle.ls_set.specs.{bound, comes_before, differing, empty, has, is_same, items, least, single, union, with}
pub use Rattle.ls_family.specs.Words.{items_known, with_word}
