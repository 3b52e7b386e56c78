-- The first set after a word whose complement is a member, by interiors alone.
use Rattle.std.specs.Prelude.{ℕ, zero, suc, ◌-◌, Bool, ◌&&◌, if◌then◌else◌, List, Option, None}
use Rattle.std.specs.Prelude.{Some, option_map}
use Rattle.ls_set.specs.ItemSet.{Items, has, full, with, without, union, minus, keep_before}
use Rattle.ls_set.specs.ItemSet.{is_within}
use Rattle.ls_theory.specs.Families.{interior}

-- the items outside the word before i, and all items from i on
abbrev pub dual_reach : ℕ → Items → ℕ → Items
dual_reach n word i = union (keep_before (minus (full n) word) i) (minus (full n) (full i))

-- the word has i, and some member has i and agrees with the complement of the word before i
abbrev pub parts_at : ℕ → List Items → Items → ℕ → Bool
parts_at n f word i =
    has word i
    && is_within (with (keep_before (minus (full n) word) i) i) (interior f (dual_reach n word i))

-- the greatest number below m that passes
abbrev pub last_that : (ℕ → Bool) → ℕ → Option ℕ
last_that p zero = None
last_that p (suc m) = if p m then Some m else last_that p m

-- the interior of k without j, where that agrees with k before j
abbrev pub lowered_at : List Items → Items → ℕ → Items
lowered_at f k j =
    let t = interior f (without k j) in if is_within (keep_before k j) t then t else k

-- so at m items in turn, from j on
abbrev pub lowered : List Items → Items → ℕ → ℕ → Items
lowered f k j zero = k
lowered f k j (suc m) = lowered f (lowered_at f k j) (suc j) m

-- at the greatest item of the word at which some complement parts from it: the complement of the
-- last member that does
unfoldable pub next_dual : ℕ → List Items → Items → Option Items
next_dual n f word =
    option_map
    (λ i. minus (full n) (lowered f (interior f (dual_reach n word i)) (suc i) (n - suc i)))
    (last_that (parts_at n f word) n)
