-- Blocks: the sets of the first sizes, of which an interview asks, and how they are made.
--     made n k      the blocks up to k of n items, or what is wrong
use Rattle.std.specs.Prelude.{ℕ, ◌-◌, ◌≡◌, Bool, ◌||◌, ◌==◌, nat_lt, max, if◌then◌else◌, length}
use Rattle.std.specs.Prelude.{find, Result, Ok, Err, ⊤}
use Rattle.std.specs.Option.{option_map_or}
use Rattle.ls_set.specs.{numbers_from}
use Rattle.ls_theory.specs.declared.block_fault.BlockFault.{BlockFault}
use Rattle.ls_theory.specs.declared.block_fault.BlockFault.TheVariants.{BadBlock, TooWide, Memory}
use Rattle.ls_theory.specs.Queries.{blocks}

-- the most sets of blocks
abbrev pub most_sets : ℕ
most_sets = 400000

-- the blocks up to a size: the sets of 1 to `largest` of the items below `item_count`
pub record BlockRange : Type 0 where
  pub item_count : ℕ
  pub largest : ℕ

-- whether there are too many sets of 1 to `size` of n items
unfoldable pub is_too_wide : ℕ → ℕ → Bool
is_too_wide n size = nat_lt most_sets (length (blocks n size))

-- the blocks; otherwise the first of these that is wrong: the size, and the number of sets,
-- with the least size up to which they are too many
unfoldable pub made : ℕ → ℕ → Result BlockRange BlockFault
made n k =
    if k == 0 || nat_lt (max 1 (n - 1)) k then Err BadBlock else
    option_map_or (λ size. Err (TooWide size)) (find (is_too_wide n) (numbers_from 1 k))
    (Ok (record { item_count = n; largest = k }))

-- the fault is the one that is found, unless memory ran out
abbrev pub IsBlockFault : Result BlockRange BlockFault → BlockFault → Type 0
IsBlockFault found (Memory e) = ⊤
IsBlockFault found fault = found ≡ Err fault
