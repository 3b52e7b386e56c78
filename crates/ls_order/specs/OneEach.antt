-- Surmise functions in which each item has one clause.
use Rattle.std.specs.Prelude.{ℕ, ◌<◌, ◌≡◌, List, length}
use Rattle.ls_set.specs.ItemSet.{Items}
use Rattle.ls_theory.specs.Clauses.{clauses_of}
use Rattle.ls_clauses.specs.Surmise.{IsSurmise}

pub record HasOneEach (n : ℕ) (clauses : List (List Items)) : Type 0 where
  pub surmise : IsSurmise n clauses
  pub one : (q : ℕ) → q < n → length (clauses_of clauses q) ≡ 1
