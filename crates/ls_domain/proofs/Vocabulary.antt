-- The words that the proofs of this crate cite, passed on from one place.
pub use Rattle.std.proofs.Common.{◌++◌, ◌+◌, ◌-◌, ◌<◌, ◌==◌, ◌∙◌, ◌∷◌, ◌≡◌, ◌≢◌, ◌≤◌, Bool, Bor, Err, Global, List, None, Ok, OnSome, Result, Some, String, ℕ, [], ap, append-nil, append_assoc, ap₂, arith, cond, drop, eq-eqb, false, filter, get_or, inl, inr, is_some, le-ltb, length, length-append, lt-ltb, ltb, ltb-true, map, nat_le, ne_eqb, not, option_map, refl, slice_get, string_bytes, subst, suc, sym, take, true, unwrap_or, zero, zero-add}
pub use Rattle.std.proofs.Math.Seq.{take-append_seam}
pub use Rattle.std.proofs.lemmas.Bool.{and_from, and_parts, cases_Bool, cases_lt, le-leb}
pub use Rattle.std.proofs.lemmas.Bool.Decides.{nat_tests}
pub use Rattle.std.proofs.lemmas.Cmp.{nat_list_eq_equiv}
pub use Rattle.std.proofs.lemmas.Grind.{common_steps}
pub use Rattle.std.proofs.lemmas.List.{length-map, map-append, map-id, take_all, take_more}
pub use Rattle.std.proofs.lemmas.List.Folds.{list_all-append}
pub use Rattle.std.proofs.lemmas.Option.{none-some, same_Some}
pub use Rattle.std.specs.List.{AllByRecursion, AllZip, join_with_byte, list_all, list_any, position, position_or_len}
unfoldable pub use Rattle.std.specs.List.{IsDistinct}
pub use Rattle.std.specs.Str.{IsUtf8, bytes_eq}
pub use Rattle.std.specs.declared.option.Option.{Option}
pub use Rattle.csv.specs.Reading.{AreRecords, Ready, default_config, records, records_next, source_of, strip_bom}
unfoldable pub use Rattle.csv.specs.Reading.{Reached, records_from}
pub use Rattle.csv.specs.Records.{fields_of}
unfoldable pub use Rattle.csv.specs.Records.{field_at}
pub use Rattle.ls_cutting.specs.{Text}
pub use Rattle.ls_lists.proofs.Every.{All-given, All-kept, list_any-map}
pub use Rattle.ls_lists.proofs.Joins.{gap-snoc, join_more}
pub use Rattle.ls_lists.proofs.Options.{nothing, ok-err, same_Ok}
pub use Rattle.ls_lists.proofs.Places.{begun-some, is_some-position, moved-here, moved-next, moved-none, moved-zero, position-map}
pub use Rattle.ls_lists.specs.Lists.{gap, shifted}
pub use Rattle.ls_set.proofs.Sets.{empty-within, has-full, members, same_set}
pub use Rattle.ls_set.specs.{IsWithin, Items, bound, full, has, meet, numbers_from, set_of, with}
unfoldable pub use Rattle.ls_set.specs.{items}
pub use Rattle.ls_set.specs.declared.item_set.TheConstants.{PLACES}
pub use Rattle.ls_domain.specs.Domains.{AreNames, FirstField, IsDomain, IsDomainFault, IsNameFault, even_field, field_count, first_field, first_fields, is_name, name_fault, names_of, names_of_table, names_of_words, table_records}
unfoldable pub use Rattle.ls_domain.specs.Domains.{names_from}
pub use Rattle.ls_domain.specs.Meanings.{first_unnamed, is_named, item_of, items_of, number_of}
pub use Rattle.ls_domain.specs.Texts.{name_of}
unfoldable pub use Rattle.ls_domain.specs.Texts.{names_of_set}
pub use Rattle.ls_domain.specs.declared.domain_fault.DomainFault.TheVariants.{BadCsv, BadName, Memory, NoItems, Repeat, TooMany}
