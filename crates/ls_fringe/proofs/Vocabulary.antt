-- The words that the proofs of this crate cite, passed on from one place.
pub use Rattle.std.proofs.Common.{◌&&◌, ◌++◌, ◌+◌, ◌<◌, ◌||◌, ◌∙◌, ◌∷◌, ◌≡◌, ◌⊎◌, Bool, List, None, Option, Some, ℕ, [], ap, append-nil, append_assoc, ap₂, arith, codes, cond, eqb, false, inl, inr, length, ltb, map, not, refl, subst, sym, true, true≢false}
pub use Rattle.std.proofs.lemmas.Bool.{and_from, and_parts, cases_eq}
pub use Rattle.std.proofs.lemmas.Bool.Decides.{nat_tests}
pub use Rattle.std.specs.Option.{is_some}
pub use Rattle.std.specs.List.{AllByRecursion, join_with_byte, list_all}
pub use Rattle.ls_domain.specs.Texts.{fringe_words, joined_names, name_of, names_of_set}
pub use Rattle.ls_laws.proofs.Listed.{in-items}
pub use Rattle.ls_laws.proofs.ReadBack.{has-chosen, has-inner_fringe, has-outer_fringe, state_of-is, state_of-own}
pub use Rattle.ls_laws.proofs.WellGraded.{learning-parts}
pub use Rattle.ls_lines.specs.{Text, command_of, words, words_joined}
unfoldable pub use Rattle.ls_lines.specs.{is_of, is_plain, laid_out, parts, spelled, spelled_as, spelling}
pub use Rattle.ls_lists.proofs.Elements.{filter-in}
pub use Rattle.ls_lists.specs.Lists.{IsIn, gap}
pub use Rattle.ls_set.proofs.Sets.{has-empty, has-keep_before, has-with, members, minus-within, same_within, without-within}
pub use Rattle.ls_set.specs.{IsWithin, Items, bound, empty, full, has, is_among, is_within, keep_before, minus, numbers_from, with, without}
unfoldable pub use Rattle.ls_set.specs.{is_same, items}
pub use Rattle.ls_theory.specs.{fringes, inner_fringe, interior, is_learning_space, state_of}
unfoldable pub use Rattle.ls_theory.specs.{outer_fringe}
pub use Rattle.ls_theory.specs.declared.fringe_pair.FringePair.{FringePair}
