-- A list of items taken one by one, and the places at which the next growth can leave it.
--     grown_to k order      the set that k grows to by the items of the list
--     is_grown f k order      each item is outside what is reached before it,
--         and what it leads to is a member
--     is_fresh k order      each item is outside what is reached before it
--     leaves_at n f k order j      the growth that keeps the first j items,
--         takes the least greater item that can be added in place of the next one,
--         and then goes on as the first growth does
--     leaves_below n f k order j      that at the last place below j at which there is one
use Rattle.std.specs.Prelude.{ℕ, zero, suc, ◌<◌, ◌≡◌, Bool, true, not, ◌&&◌, ◌==◌}
use Rattle.std.specs.Prelude.{List, [], ◌∷◌, ◌++◌, length, take, drop, slice_index}
use Rattle.std.specs.Prelude.{Option, None, option_map}
use Rattle.std.specs.Option.{option_or}
use Rattle.ls_set.specs.{Items, empty, has, is_among, with}
use Rattle.ls_paths.specs.Growths.{is_next, next_item_after, first_growth}

abbrev pub grown_to : Items → List ℕ → Items
grown_to k [] = k
grown_to k (i ∷ is) = grown_to (with k i) is

abbrev pub is_grown : List Items → Items → List ℕ → Bool
is_grown f k [] = true
is_grown f k (i ∷ is) = is_next f k i && is_grown f (with k i) is

abbrev pub is_fresh : Items → List ℕ → Bool
is_fresh k [] = true
is_fresh k (i ∷ is) = not (has k i) && is_fresh (with k i) is

-- each set that fewer than m of the first items give is a member
abbrev pub AreMembersBelow : List Items → List ℕ → ℕ → Type 0
AreMembersBelow f order m =
    (j : ℕ) → j < m → is_among f (grown_to empty (take j order)) ≡ true

-- a learning path, as a growth of the empty set to all n items
abbrev pub is_whole : ℕ → List Items → List ℕ → Bool
is_whole n f order = length order == n && is_grown f empty order

abbrev pub leaves_at : ℕ → List Items → Items → List ℕ → ℕ → Option (List ℕ)
leaves_at n f k order j =
    let here = grown_to k (take j order) in
    option_map
    (λ i. take j order ++ i ∷ first_growth n f (length (drop (suc j) order)) (with here i))
    (next_item_after n f here (slice_index order j))

abbrev pub leaves_below : ℕ → List Items → Items → List ℕ → ℕ → Option (List ℕ)
leaves_below n f k order zero = None
leaves_below n f k order (suc j) = option_or (leaves_at n f k order j) (leaves_below n f k order j)
