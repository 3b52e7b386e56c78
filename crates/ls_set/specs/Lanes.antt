-- Lanes of 64 binary digits as one set, the first lane lowest.
use Rattle.std.specs.Prelude.{ℕ, zero, suc, ◌+◌, ◌*◌, ◌/◌, ◌%◌, ◌^◌, ◌<◌, ◌≡◌, List, [], ◌∷◌}
use Rattle.std.specs.Prelude.{length, map, ◌-◌, ◌==◌, nat_lt, if◌then◌else◌}
use Rattle.std.specs.Int.{bit_at}
use Rattle.std.proofs.Common.{ap, sym, ◌∙◌, refl}
use Rattle.std.proofs.lemmas.Nat.{mod_low, shr_high}
use Rattle.ls_set.specs.ItemSet.{Items, numbers_from}
use lib.Lanes.{Each1}

-- the number whose lowest lane is w, and whose digits above it are those of n
unfoldable pub cat : ℕ → ℕ → ℕ
cat w n = n * 2 ^ 64 + w

-- the number of the lanes
abbrev pub joined : List ℕ → ℕ
joined [] = 0
joined (w ∷ ws) = cat w (joined ws)

-- the set with these digits
abbrev pub as_set : ℕ → Items
as_set n = record { digits = n }

-- the set whose digits are those of the lanes
abbrev pub set_of_lanes : List ℕ → Items
set_of_lanes ws = as_set (joined ws)

-- each number has at most 64 digits
abbrev pub AreShort : List ℕ → Type 0
AreShort ws = Each1 (λ w. w < 2 ^ 64) ws

-- the numbers are the lanes of a set: eight, of 64 digits each
abbrev pub AreLanes : List ℕ → Type 0
AreLanes ws = (length ws ≡ 8) × AreShort ws

-- the lowest m lanes of n
abbrev pub lowest_lanes : ℕ → ℕ → List ℕ
lowest_lanes zero n = []
lowest_lanes (suc m) n = n % 2 ^ 64 ∷ lowest_lanes m (n / 2 ^ 64)

abbrev pub lanes_of : Items → List ℕ
lanes_of s = lowest_lanes 8 s.digits

-- the numbers of the lanes
abbrev pub lane_numbers : List ℕ
lane_numbers = numbers_from 0 8

-- the lane of number k, where lane p has the digits d, and no other has any
abbrev pub digits_at : ℕ → ℕ → ℕ → ℕ
digits_at p d k = if k == p then d else 0

-- the lanes with the digits d at lane p alone
abbrev pub lane_at : ℕ → ℕ → List ℕ
lane_at p d = map (digits_at p d) lane_numbers

-- the lane of number k, where the lanes before lane p have all digits, that one has the digits d,
-- and no later one has any
abbrev pub digits_up_to : ℕ → ℕ → ℕ → ℕ
digits_up_to p d k = if nat_lt k p then 2 ^ 64 - 1 else digits_at p d k

abbrev pub lanes_up_to : ℕ → ℕ → List ℕ
lanes_up_to p d = map (digits_up_to p d) lane_numbers

-- i is the lowest place at which n has the digit 1
pub record IsLowest (n i : ℕ) : Type 0 where
  pub here : bit_at n i ≡ 1
  pub none_below : (j : ℕ) → j < i → bit_at n j ≡ 0

-- ---- the lanes of a number

pub lowest_lane : (w n : ℕ) → w < 2 ^ 64 → cat w n % 2 ^ 64 ≡ w
unfolding cat
lowest_lane w n h = mod_low n 64 w h

pub other_lanes : (w n : ℕ) → w < 2 ^ 64 → cat w n / 2 ^ 64 ≡ n
unfolding cat
other_lanes w n h = shr_high n 64 w h

pub lanes-joined : (ws : List ℕ) → AreShort ws → lowest_lanes (length ws) (joined ws) ≡ ws
lanes-joined [] h = refl
lanes-joined (w ∷ ws) h =
    rw (lowest_lane w (joined ws) h.0, other_lanes w (joined ws) h.0) (ap (λ vs. w ∷ vs) (lanes-joined ws h.1))

-- what is made of the lanes that a number has
pub rebuilt : {X : Type 0} (make : List ℕ → X) (ws : List ℕ) → AreLanes ws
    → make (lowest_lanes 8 (joined ws)) ≡ make ws
rebuilt make ws h =
    ap make (ap (λ m. lowest_lanes m (joined ws)) (sym h.0) ∙ lanes-joined ws h.1)
