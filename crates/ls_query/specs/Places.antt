-- The place of a set among those of its size, by counting the sets after it.
use Rattle.std.specs.Prelude.{ℕ, suc, ◌+◌, ◌-◌, List, [], ◌∷◌, length}
use Rattle.ls_query.specs.Blocks.{choose}

-- how many sets of n items come after the set of these ascending ones, and have as many:
-- for each item, those that agree with it up to there, and have greater items from there on
abbrev pub count_after : ℕ → List ℕ → ℕ
count_after n [] = 0
count_after n (i ∷ is) = choose (n - i - 1) (suc (length is)) + count_after n is
