-- The step from a set to the next of its size: its last item that can move up moves up by one,
-- and those behind it follow directly.
use Rattle.std.specs.Prelude.{ℕ, ◌+◌, ◌-◌, ◌<◌, ◌≡◌, true, false}
use Rattle.ls_set.specs.{Items, full, has, keep_before, len, minus, union}

-- i is the greatest item of a that can move up among the items below n:
-- the item above it is one, and is not in a
pub record IsLastMove (n : ℕ) (a : Items) (i : ℕ) : Type 0 where
  pub room : i + 1 < n
  pub here : has a i ≡ true
  pub free : has a (i + 1) ≡ false
  pub last : (j : ℕ) → i < j → j + 1 < n → has a j ≡ true → has a (j + 1) ≡ true

-- no item of a can move up
abbrev pub HasNoMove : ℕ → Items → Type 0
HasNoMove n a = (j : ℕ) → j + 1 < n → has a j ≡ true → has a (j + 1) ≡ true

-- the items of a from i on, packed from i + 1 on
abbrev pub moved : Items → ℕ → Items
moved a i =
    union (minus (full (i + 1 + (len a - len (keep_before a i)))) (full (i + 1)))
    (keep_before a i)

-- i is the greatest item of a
pub record IsGreatest (a : Items) (i : ℕ) : Type 0 where
  pub here : has a i ≡ true
  pub above : (j : ℕ) → i < j → has a j ≡ false
