-- The words that the proofs of this crate cite, passed on from one place.
pub use Rattle.std.proofs.Common.{◌%◌, ◌*◌, ◌++◌, ◌+◌, ◌-◌, ◌/◌, ◌<◌, ◌^◌, ◌∙◌, ◌∷◌, ◌≡◌, ◌≢◌, ◌≤◌}
pub use Rattle.std.proofs.Common.{Bool, Err, Global, List, None, Ok, Result, Some, Vec, ℕ, [], ap}
pub use Rattle.std.proofs.Common.{append-nil, append_assoc, ap₂, arith, below_more, codes, cond}
pub use Rattle.std.proofs.Common.{decimal, drop, eq-eqb, eqb, eqb-true, false, filter, get_or}
pub use Rattle.std.proofs.Common.{if◌then◌else◌, inl, inr, is_lt, is_some, length, length-append}
pub use Rattle.std.proofs.Common.{length-drop, map, min, nat_cmp, ne_eqb, refl, subst, suc, sym}
pub use Rattle.std.proofs.Common.{take, take-append-drop, true, zero}
pub use Rattle.std.proofs.Math.ListN.{drop_of_length-le}
pub use Rattle.std.proofs.Math.Seq.{take-append_seam, take-length}
pub use Rattle.std.proofs.lemmas.Bool.{agree_below_at, and_parts, cases_Bool, cases_lt}
pub use Rattle.std.proofs.lemmas.Bool.Decides.{nat_tests}
pub use Rattle.std.proofs.lemmas.Grind.{common_steps, flat_map-append}
pub use Rattle.std.proofs.lemmas.List.{drop_min, get_or_past, length-map, map-append, map-id}
pub use Rattle.std.proofs.lemmas.List.{take_all, take_more}
pub use Rattle.std.proofs.lemmas.List.Elements.{All-cons, All-head, All-nil, All-tail}
pub use Rattle.std.proofs.lemmas.List.Elements.{filter-append}
pub use Rattle.std.specs.Cmp.Lexicographic.{slice_cmp}
pub use Rattle.std.specs.Int.{bit_at}
pub use Rattle.std.specs.List.{All, flat_map, insert, join_with_byte, list_all, slice_range}
pub use Rattle.json.specs.Print.{escape}
unfoldable pub use Rattle.json.specs.Print.{escape_byte}
pub use Rattle.ls_lists.proofs.Joins.{join-spaced, join-spaced-one, join_next, spaced-next}
pub use Rattle.ls_lists.proofs.Places.{drop-parts, part-kept, part-last}
pub use Rattle.ls_lists.specs.Lists.{spaced}
pub use Rattle.ls_set.specs.{Items, hex, nibble_of, numbers_from}
unfoldable pub use Rattle.ls_set.specs.{cursor, has, single}
pub use Rattle.ls_cutting.specs.{Text, is_name_byte}
unfoldable pub use Rattle.ls_cutting.specs.{is_of}
pub use Rattle.ls_domain.specs.Domains.{IsDomain, is_name}
pub use Rattle.ls_domain.specs.Texts.{joined_names, name_of}
unfoldable pub use Rattle.ls_domain.specs.Texts.{names_of_set}
pub use Rattle.ls_meaning.specs.{Line, line, line_bytes, line_words, lines_bytes, set_line}
unfoldable pub use Rattle.ls_meaning.specs.{bytes_of, line_of}
pub use Rattle.ls_room.specs.Rooms.{Ends, HasSaid, RoomState, Says, Sends, Wrote, no_reply}
pub use Rattle.ls_room.specs.Names.{insert_by_name, items_by_name, quoted_name}
unfoldable pub use Rattle.ls_room.specs.Names.{by_name}
pub use Rattle.ls_room.specs.SetTexts.{group_count, group_items, group_text, spaced_names}
unfoldable pub use Rattle.ls_room.specs.SetTexts.{group_texts}
