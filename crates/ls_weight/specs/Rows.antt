-- Sets of items as rows of bytes: digit q % 8 of byte q / 8 is 1 where item q is in the set.
use Rattle.std.specs.Prelude.{ℕ, ◌+◌, ◌*◌, ◌/◌, ◌%◌, ◌<◌, ◌≡◌, ◌≤◌, Bool, not, ◌&&◌, ◌==◌}
use Rattle.std.specs.Prelude.{false, true, if◌then◌else◌, List, length, take, drop, slice_index, slice_index_or}
use Rattle.std.specs.Prelude.{count_by, map}
use Rattle.std.specs.Int.{bit_at}
use Rattle.std.specs.List.{range_with_len}
use Rattle.ls_set.specs.{Items, empty, has, most_items}
use Rattle.ls_theory.specs.declared.reply.Reply.{Reply}
use Rattle.ls_theory.specs.{agrees, most_states}
use Rattle.ls_weight.specs.Sums.{sum_below}

-- how many bytes hold n items
abbrev pub width_of : ℕ → ℕ
width_of n = (n + 7) / 8

-- the row at a place, of rows of so many bytes
abbrev pub row_at : List ℕ → ℕ → ℕ → List ℕ
row_at bytes width i = take width (drop (width * i) bytes)

-- whether the row has the item
abbrev pub has_in : List ℕ → ℕ → Bool
has_in row q = bit_at (slice_index row (q / 8)) (q % 8) == 1

-- whether the row agrees with the reply
abbrev pub agrees_in : List ℕ → Reply → Bool
agrees_in row r = if r.right then has_in row r.q else not (has_in row r.q)

-- the rows of the states, of n items
pub record AreRows (n : ℕ) (states : List Items) (bytes : List ℕ) : Type 0 where
  pub each : length bytes ≡ width_of n * length states
  pub digits : (i q : ℕ)
      → i < length states
      → q < n
      → has_in (row_at bytes (width_of n) i) q ≡ has (slice_index_or states i empty) q

-- whether the place is marked in the column: digit i % 64 of word i / 64 is 1
abbrev pub is_marked : List ℕ → ℕ → Bool
is_marked column i = bit_at (slice_index column (i / 64)) (i % 64) == 1

-- whether the place agrees with a right or a wrong reply, by the column of its item
abbrev pub agrees_at : List ℕ → Bool → ℕ → Bool
agrees_at column right i = if right then is_marked column i else not (is_marked column i)

-- the column marks which of the first m rows have the item
pub record IsColumn (column bytes : List ℕ) (width q m : ℕ) : Type 0 where
  pub few : length column ≤ most_states
  pub long : m ≤ 64 * length column
  pub marks : (i : ℕ) → i < m → is_marked column i ≡ has_in (row_at bytes width i) q

-- digit j is 1 where the place j behind this one agrees and is in the same word, and else 0
pub record IsRest (column : List ℕ) (right : Bool) (place rest : ℕ) : Type 0 where
  pub digits : (j : ℕ)
      → place % 64 + j < 64
      → (bit_at rest j == 1) ≡ agrees_at column right (place + j)
  pub none : (j : ℕ) → 64 ≤ place % 64 + j → bit_at rest j ≡ 0

-- the first place from one on that agrees, or one behind the column; and the digits from it on
pub record IsFirstFrom (column : List ℕ) (right : Bool) (from place rest : ℕ) : Type 0 where
  pub later : from ≤ place
  pub none : (k : ℕ) → from ≤ k → k < place → agrees_at column right k ≡ false
  pub agrees : place < 64 * length column → agrees_at column right place ≡ true
  pub digits : place < 64 * length column → IsRest column right place rest

-- how many words have a digit for each of m states
abbrev pub words_of : ℕ → ℕ
words_of m = (m + 63) / 64

-- the columns of n items for m states with these rows, one behind another
pub record AreColumns (n m : ℕ) (bytes columns : List ℕ) : Type 0 where
  pub each : length columns ≡ words_of m * n
  pub column : (q : ℕ) → q < n → IsColumn (row_at columns (words_of m) q) bytes (width_of n) q m

-- the weights of the first m states that agree with the reply and have the byte v in group g
abbrev pub cell_of : List ℕ → ℕ → Reply → List ℕ → ℕ → ℕ → ℕ → ℕ
cell_of bytes width r weights m g v = sum_below m (λ i.
    let row = row_at bytes width i in
    if agrees_in row r && slice_index row g == v then slice_index weights i else 0)

-- ---- listed states, with rows

-- a number of items, and states of them
pub record StateList : Type 0 where
  pub item_count : ℕ
  pub states : List Items

-- there are not too many items or states; the bytes are the rows of the states;
-- and it is counted how many have each item, and marked which
pub record IsRowed (s : StateList) (bytes counted columns : List ℕ) : Type 0 where
  pub few_items : s.item_count ≤ most_items
  pub few_states : length s.states ≤ most_states
  pub rows : AreRows s.item_count s.states bytes
  pub counts : counted ≡ map (λ q. count_by (λ k. has k q) s.states) (range_with_len 0 s.item_count)
  pub marks : AreColumns s.item_count (length s.states) bytes columns

-- the state at a place
abbrev pub state_at : List Items → ℕ → Items
state_at states i = slice_index_or states i empty

-- the weights of the states that agree with the reply and have the item
abbrev pub agreeing_with : List Items → Reply → List ℕ → ℕ → ℕ
agreeing_with states r weights q = sum_below (length states) (λ i.
    let k = state_at states i in
    if agrees k r && has k q then slice_index weights i else 0)
