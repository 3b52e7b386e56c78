-- Sums over the numbers below a number, and what cells of tables come to.
use Rattle.std.specs.Prelude.{ℕ, zero, suc, ◌+◌, ◌==◌, List, if◌then◌else◌, slice_index}
use Rattle.std.specs.Int.{bit_at}

-- the sum of f over the numbers below n
unfoldable pub sum_below : ℕ → (ℕ → ℕ) → ℕ
sum_below zero f = 0
sum_below (suc n) f = sum_below n f + f n

-- a table has a cell for each byte
abbrev pub table_cells : ℕ
table_cells = 256

-- the cells of the table for the bytes of which digit j is 1, in all
abbrev pub cells_with : List ℕ → ℕ → ℕ
cells_with table j = sum_below table_cells (λ v. if bit_at v j == 1 then slice_index table v else 0)
