-- The words that the proofs of this crate cite, passed on from one place.
pub use Rattle.std.proofs.Common.{◌++◌, ◌+◌, ◌-◌, ◌<◌, ◌∙◌, ◌∷◌, ◌≡◌, ◌≤◌, List, None, Some, ℕ, [], add-one, ap, arith, false, length, map, refl, suc, take, true, zero}
pub use Rattle.ls_set.specs.{Items, numbers_from, subsets}
unfoldable pub use Rattle.ls_set.specs.{bound, comes_before, differing, empty, full, has, is_same, is_within, items, least, len, meet, minus, single, union, with, without}
pub use Rattle.ls_theory.specs.Assessment.{outcome, reply_fault}
unfoldable pub use Rattle.ls_theory.specs.Assessment.{asked, half_split, imbalance, leader}
pub use Rattle.ls_theory.specs.Bases.{atoms_at, peak_of}
unfoldable pub use Rattle.ls_theory.specs.Bases.{base, peak}
unfoldable pub use Rattle.ls_theory.specs.Classes.{class_results, replies_in}
pub use Rattle.ls_theory.specs.Compatible.{compatible_sets}
unfoldable pub use Rattle.ls_theory.specs.Compatible.{compat}
pub use Rattle.ls_theory.specs.Families.{closure}
unfoldable pub use Rattle.ls_theory.specs.Families.{families, interior}
pub use Rattle.ls_theory.specs.Fitting.{spaces_of}
unfoldable pub use Rattle.ls_theory.specs.Fitting.{fitting_spaces}
unfoldable pub use Rattle.ls_theory.specs.Forced.{is_settled, known, next_question}
pub use Rattle.ls_theory.specs.Fringes.{fringes}
unfoldable pub use Rattle.ls_theory.specs.Fringes.{inner_fringe, outer_fringe, state_of}
pub use Rattle.ls_theory.specs.Interviews.{Interview, accepted, begun, retracted, yes_queries}
unfoldable pub use Rattle.ls_theory.specs.Paths.{orders_of, paths}
pub use Rattle.ls_theory.specs.Queries.{breaks}
unfoldable pub use Rattle.ls_theory.specs.Queries.{block_before, blocks, queries, query_before}
pub use Rattle.ls_theory.specs.Starts.{Clauses, Free, Sets, Start}
pub use Rattle.ls_theory.specs.Verdict.{is_learning_space}
unfoldable pub use Rattle.ls_theory.specs.Verdict.{is_joined, is_well_graded, verdict}
pub use Rattle.ls_theory.specs.Weights.{mass, total}
unfoldable pub use Rattle.ls_theory.specs.Weights.{weight}
pub use Rattle.ls_theory.specs.Words.{is_lex_before, pairs}
pub use Rattle.ls_theory.specs.declared.verdict.Verdict.TheVariants.{Learning, NoEmpty, NoFull, NotClosed, NotGraded}
