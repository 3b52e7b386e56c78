-- Fringes, and the member that two fringes tell.
use Rattle.std.specs.Prelude.{ℕ, ◌&&◌, List, filter, find, Option}
use Rattle.ls_set.specs.{Items, full, is_among, is_same, items, minus, set_of, with, without}
use Rattle.ls_theory.specs.declared.fringe_pair.FringePair.{FringePair}

-- the inner fringe: the items of K whose removal gives a member
unfoldable pub inner_fringe : List Items → Items → Items
inner_fringe f k = set_of (filter (λ i. is_among f (without k i)) (items k))

-- the outer fringe: the items outside K whose addition gives a member
unfoldable pub outer_fringe : ℕ → List Items → Items → Items
outer_fringe n f k = set_of (filter (λ i. is_among f (with k i)) (items (minus (full n) k)))

-- both
abbrev pub fringes : ℕ → List Items → Items → FringePair
fringes n f k = record { inner = inner_fringe f k; outer = outer_fringe n f k }

-- the member whose two fringes are the given ones
unfoldable pub state_of : ℕ → List Items → Items → Items → Option Items
state_of n f inner outer =
    find (λ k. is_same (inner_fringe f k) inner && is_same (outer_fringe n f k) outer) f
