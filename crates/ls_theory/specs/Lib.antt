pub mod Words
pub mod Queries
pub mod Families
pub mod Starts
pub mod Interviews
pub mod Compatible
pub mod Fitting
pub mod Pages
pub mod Forced
pub mod Blocks
pub mod Answering
pub mod Bases
pub mod Clauses
pub mod Verdict
pub mod Fringes
pub mod Projections
pub mod Paths
pub mod Weights
pub mod Settings
pub mod Assessment
pub mod Classes
pub mod Bounds
pub use Rattle.ls_theory.specs.Answering.{IsAnswerFault, answer_with, first_fault, is_full}
pub use Rattle.ls_theory.specs.Answering.{is_same_query, most_answers, most_number, opposed}
pub use Rattle.ls_theory.specs.Answering.{refusal, standing_number}
pub use Rattle.ls_theory.specs.Assessment.{has_share, outcome, reply_fault}
unfoldable pub use Rattle.ls_theory.specs.Assessment.{asked, half_split, imbalance, leader}
pub use Rattle.ls_theory.specs.Bases.{Peak, atom_items, atom_sets, atoms_at, base_size, based}
pub use Rattle.ls_theory.specs.Bases.{first_missing, is_atom_at, limited, most_base_sets, peak_of}
unfoldable pub use Rattle.ls_theory.specs.Bases.{base, peak}
pub use Rattle.ls_theory.specs.Blocks.{BlockRange, IsBlockFault, most_sets}
unfoldable pub use Rattle.ls_theory.specs.Blocks.{is_too_wide, made}
pub use Rattle.ls_theory.specs.Classes.{PupilResult, Row, result_from, turn}
unfoldable pub use Rattle.ls_theory.specs.Classes.{class_results, replies_in}
pub use Rattle.ls_theory.specs.Clauses.{all_clauses, are_comparable, clause_at, clauses_at}
pub use Rattle.ls_theory.specs.Clauses.{clauses_of, comparable_at, comparable_in, first_some}
pub use Rattle.ls_theory.specs.Clauses.{has_clause_within, lacking_in, no_clause, places_after}
pub use Rattle.ls_theory.specs.Clauses.{places_of, unclosed_at, unclosed_in}
unfoldable pub use Rattle.ls_theory.specs.Clauses.{flaw}
pub use Rattle.ls_theory.specs.Compatible.{compatible_sets, is_compatible}
unfoldable pub use Rattle.ls_theory.specs.Compatible.{compat}
pub use Rattle.ls_theory.specs.Families.{closure, is_space, is_union_closed, unions}
unfoldable pub use Rattle.ls_theory.specs.Families.{families, interior}
pub use Rattle.ls_theory.specs.Fitting.{fits, spaces_of}
unfoldable pub use Rattle.ls_theory.specs.Fitting.{fitting_spaces}
pub use Rattle.ls_theory.specs.Forced.{by, is_forced_no, is_forced_yes, is_open}
unfoldable pub use Rattle.ls_theory.specs.Forced.{is_settled, known, next_question}
pub use Rattle.ls_theory.specs.Fringes.{fringes}
unfoldable pub use Rattle.ls_theory.specs.Fringes.{inner_fringe, outer_fringe, state_of}
pub use Rattle.ls_theory.specs.Interviews.{Interview, accepted, begun, no_queries, nos}
pub use Rattle.ls_theory.specs.Interviews.{retracted, yes_queries}
pub use Rattle.ls_theory.specs.Pages.{Page, comes_after, page}
pub use Rattle.ls_theory.specs.Paths.{is_order, is_path}
unfoldable pub use Rattle.ls_theory.specs.Paths.{orders_of, paths}
pub use Rattle.ls_theory.specs.Projections.{projection}
pub use Rattle.ls_theory.specs.Queries.{breaks, breaks_none, some_breaks}
unfoldable pub use Rattle.ls_theory.specs.Queries.{block_before, blocks, queries, query_before}
pub use Rattle.ls_theory.specs.Settings.{are_limits, are_ratios, are_settings, greatest, is_between}
pub use Rattle.ls_theory.specs.Settings.{is_heavy, is_ratio, most_states, odds, standard, with_all}
pub use Rattle.ls_theory.specs.Settings.{with_item, with_limits}
unfoldable pub use Rattle.ls_theory.specs.Settings.{heavy_after}
pub use Rattle.ls_theory.specs.Starts.{Free, Sets, Start, meets}
pub use Rattle.ls_theory.specs.Verdict.{base_verdict, double_atom, graded_verdict}
pub use Rattle.ls_theory.specs.Verdict.{is_learning_space, neighbours, unclosed_pair}
pub use Rattle.ls_theory.specs.Verdict.{verdict_from, with_base}
unfoldable pub use Rattle.ls_theory.specs.Verdict.{is_joined, is_well_graded, verdict}
pub use Rattle.ls_theory.specs.Weights.{agrees, factor, mass, no_ratios, ratio_for, total}
unfoldable pub use Rattle.ls_theory.specs.Weights.{weight}
pub use Rattle.ls_theory.specs.Words.{first_greatest, first_least, is_lex_before, pairs, sublists}
