-- The words that the proofs of this crate cite, passed on from one place.
pub use Rattle.std.proofs.Common.{◌&&◌, ◌++◌, ◌+◌, ◌-◌, ◌<◌, ◌==◌, ◌||◌, ◌↔◌, ◌∙◌, ◌∷◌, ◌≡◌, ◌≤◌, ◌⊎◌, All, Bool, List, None, Option, Some, ℕ, [], ap, arith, bytes_eq, codes, cond, drop, false, filter, flat_map, fold, get_or, if◌then◌else◌, inl, inr, is_some, length, map, max, min, nat_le, nat_lt, not, option_map, refl, replicate, rules, subst, suc, sym, take, tests, true, unwrap_or, vec_len, zero}
pub use Rattle.std.proofs.Math.Seq.{drop-append_seam, take-append_seam, take-nil}
pub use Rattle.std.proofs.lemmas.Bool.{and_parts, cases_lt, leb-true, not-true}
pub use Rattle.std.proofs.lemmas.Bool.Decides.{nat_tests}
pub use Rattle.std.proofs.lemmas.Cmp.{nat_list_eq_equiv}
pub use Rattle.std.proofs.lemmas.Iterator.{YieldsList-from_map, YieldsList-from_slice}
pub use Rattle.std.proofs.lemmas.Iterator.Consumers.{count_from_yields_List, reduce_from_yields_List}
pub use Rattle.std.proofs.lemmas.Iterator.Search.{YieldsList-from_take_while}
pub use Rattle.std.proofs.lemmas.List.{append-nil, append_assoc, drop-drop, drop_all, drop_more, map-append, take_rest}
pub use Rattle.std.proofs.lemmas.List.Folds.{length-prefix_len, max_of_map}
pub use Rattle.std.proofs.lemmas.List.Sums.{prefix_len-le-length}
pub use Rattle.std.proofs.lemmas.Option.{cond_some, none-some, same_Some}
pub use Rattle.std.specs.Cmp.Lexicographic.{same_text}
pub use Rattle.std.specs.Fmt.{decimal}
unfoldable pub use Rattle.std.specs.Fmt.{digits}
pub use Rattle.std.specs.List.{cons_option, filter_map, find, list_all, list_any, prefix_len, slice_get}
pub use Rattle.std.specs.Option.{option_and_then, option_map_or}
pub use Rattle.std.specs.Str.{IsAscii}
pub use Rattle.ls_lists.proofs.Bools.{never}
pub use Rattle.ls_lines.specs.Commands.{begins_command, count_of, fits, front, least_from}
unfoldable pub use Rattle.ls_lines.specs.Commands.{command_of, cut, fault_place, is_begun}
unfoldable pub use Rattle.ls_lines.specs.Forms.{command, forms, parts, spelled_as}
pub use Rattle.ls_lines.specs.Grammar.{Completes, IsLine, done, fixed, no_more, one, one_more}
pub use Rattle.ls_cutting.specs.Kinds.{greatest_number, is_cursor_byte, most_counted}
unfoldable pub use Rattle.ls_cutting.specs.Kinds.{is_of}
pub use Rattle.ls_cutting.specs.Lines.{Text, runs, words_joined}
unfoldable pub use Rattle.ls_cutting.specs.Lines.{words}
pub use Rattle.ls_cutting.specs.Numbers.{number_up_to}
pub use Rattle.ls_lines.specs.Operands.{Filling, Number, Right, Word, Words, filling, shown, with_spaces, words_of}
pub use Rattle.ls_lines.specs.Printing.{all_stand, stands_at}
unfoldable pub use Rattle.ls_lines.specs.Printing.{is_plain, laid_out, spelled}
pub use Rattle.ls_lines.specs.Reading.{forms_from, initial, may_begin}
unfoldable pub use Rattle.ls_lines.specs.Reading.{begun_length}
unfoldable pub use Rattle.ls_lines.specs.Spelling.{spelling}
pub use Rattle.ls_lines.specs.declared.command.Command.{Command}
pub use Rattle.ls_lines.specs.declared.form.Form.{Form}
pub use Rattle.ls_lines.specs.declared.keyword.Keyword.{Keyword}
pub use Rattle.ls_cutting.specs.declared.kind.Kind.{Kind}
pub use Rattle.ls_lines.specs.declared.part.Part.{Part}
pub use Rattle.ls_lines.specs.declared.part.Part.TheVariants.{Fixed, Many, One}
