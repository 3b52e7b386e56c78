-- Blocks that were made are those that were asked for.
use Rattle.ls_query.proofs.Vocabulary.{◌-◌, ◌||◌, ◌≡◌, BadBlock, BlockRange, Bool, Err, None, Ok, Option, Result, Some, TooWide, ℕ, cond, eqb, false, find, is_too_wide, made, max, nat_lt, numbers_from, option_map_or, true}
use Rattle.ls_theory.specs.declared.block_fault.BlockFault.{BlockFault}

chosen : (bad : Bool) (wide : Option ℕ) (x b : BlockRange)
    → cond bad (Err BadBlock) (option_map_or (λ (size : ℕ). let r : Result BlockRange BlockFault = Err (TooWide size) in r) wide (Ok x)) ≡ Ok b → x ≡ b
chosen true wide x b e = absurd (cc e)
chosen false (Some size) x b e = absurd (cc e)
chosen false None x b e = cc e

pub made_of : (n k : ℕ) (b : BlockRange) → made n k ≡ Ok b → (let x : BlockRange = record { item_count = n; largest = k } in x) ≡ b
unfolding made
made_of n k b e = chosen (eqb k 0 || nat_lt (max 1 (n - 1)) k) (find (is_too_wide n) (numbers_from 1 k)) (record { item_count = n; largest = k }) b e
