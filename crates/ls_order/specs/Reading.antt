-- What is read of a file of pairs, line by line.
use Rattle.std.specs.Prelude.{ℕ, ◌≡◌, List, length, Ok}
use Rattle.ls_set.specs.ItemSet.{Items}
use Rattle.ls_cutting.specs.{Text}
use Rattle.ls_files.specs.PairFiles.{pairs_of_file, with_line}
use Rattle.ls_order.specs.Closing.{AreRows}
use Rattle.ls_order.specs.Orders.{ArePairs}
use Rattle.ls_files.specs.declared.pair_line.PairLine.{PairLine}

-- the rows are those of the pairs after one line more
pub record IsTaken (n : ℕ) (before : List (ℕ × ℕ)) (row : ℕ) (line : PairLine) (rows : List Items)
    : Type 0 where
  pub pairs : List (ℕ × ℕ)
  pub read : with_line before row line ≡ Ok pairs
  pub small : ArePairs n pairs
  pub are_rows : AreRows n pairs rows

-- the rows are those of the pairs of a file
pub record AreRead (names : List Text) (text : List ℕ) (rows : List Items) : Type 0 where
  pub pairs : List (ℕ × ℕ)
  pub read : pairs_of_file names text ≡ Ok pairs
  pub small : ArePairs (length names) pairs
  pub are_rows : AreRows (length names) pairs rows
