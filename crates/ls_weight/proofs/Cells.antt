-- What the cells of the tables come to after a pass over the states.
use Rattle.ls_weight.proofs.Vocabulary.{◌%◌, ◌&&◌, ◌*◌, ◌+◌, ◌/◌, ◌<◌, ◌∙◌, ◌≡◌, ◌≤◌, AreRows, Bool, Items, List, Reply, ℕ, agreeing_with, agrees, agrees_in, ap, ap₂, arith, bit_at, cell_of, cells_with, cond, eqb, get_or, has, has_in, length, not, row_at, state_at, sum, sum_below, table_cells, true, width_of}
use Rattle.ls_weight.proofs.SumsBelow.{sum_below-same, sum_below-le, sum_below-classes, sum_by-below}
use Rattle.ls_weight.proofs.Passing.{part-le, row-index, row-full}

-- after the pass over the rows, the cells are those of all states
abbrev pub AreCells : List ℕ → ℕ → Reply → List ℕ → List ℕ → Type 0
AreCells bytes width r ws tables = (g v : ℕ) → g < width → v < table_cells → get_or tables (table_cells * g + v) 0 ≡ cell_of bytes width r ws (length ws) g v

abbrev AreBytes : List ℕ → Type 0
AreBytes bytes = (k : ℕ) → get_or bytes k 0 < 256

agree-rows : (n : ℕ) (states : List Items) (bytes : List ℕ) (r : Reply) (i : ℕ) → AreRows n states bytes → i < length states → r.q < n → agrees_in (row_at bytes (width_of n) i) r ≡ agrees (state_at states i) r
agree-rows n states bytes r i rows l item = ap (λ b. cond r.right b (not b)) (rows.digits i r.q l item)

byte-small : (bytes : List ℕ) (width i g : ℕ) → AreBytes bytes → g < width → get_or (row_at bytes width i) g 0 < 256
byte-small bytes width i g small l = let e = row-index bytes width i g 0 l in let s = small (width * i + g) in omega arith

-- the cells of a group for the bytes that pass
passing : (bytes : List ℕ) (width : ℕ) (r : Reply) (ws tables : List ℕ) (p : ℕ → Bool) (g : ℕ) → AreCells bytes width r ws tables → AreBytes bytes → g < width → sum_below 256 (λ v. cond (p v) (get_or (row_at tables 256 g) v 0) 0) ≡ sum_below (length ws) (λ i. cond (agrees_in (row_at bytes width i) r && p (get_or (row_at bytes width i) g 0)) (get_or ws i 0) 0)
passing bytes width r ws tables p g cells small l =
    sum_below-same 256 _ (λ v. cond (p v) (cell_of bytes width r ws (length ws) g v) 0) (λ v k. ap (λ n. cond (p v) n 0) (row-index tables 256 g v 0 k ∙ cells g v l k))
    ∙ sum_below-classes (length ws) 256 (λ i. agrees_in (row_at bytes width i) r) p (λ i. get_or (row_at bytes width i) g 0) (λ i. get_or ws i 0) (λ i k. byte-small bytes width i g small l)

pub cells-agreeing : (n : ℕ) (states : List Items) (bytes : List ℕ) (r : Reply) (ws tables : List ℕ) (q : ℕ) → AreRows n states bytes → AreBytes bytes → AreCells bytes (width_of n) r ws tables → length ws ≡ length states → r.q < n → q < n → cells_with (row_at tables table_cells (q / 8)) (q % 8) ≡ agreeing_with states r ws q
cells-agreeing n states bytes r ws tables q rows small cells each item l =
    let w = width_of n in
    let old = λ (i : ℕ). get_or ws i 0 in
    passing bytes w r ws tables (λ v. eqb (bit_at v (q % 8)) 1) (q / 8) cells small (omega arith)
    ∙ ap (λ m. sum_below m (λ i. cond (agrees_in (row_at bytes w i) r && has_in (row_at bytes w i) q) (old i) 0)) each
    ∙ sum_below-same (length states) _ (λ i. cond (agrees (state_at states i) r && has (state_at states i) q) (old i) 0)
    (λ i k. ap₂ (λ a b. cond (a && b) (old i) 0) (agree-rows n states bytes r i rows k item) (rows.digits i q k l))

and-le : (a : Bool) (w : ℕ) → cond (a && true) w 0 ≤ w
and-le a w = part-le (a && true) w

pub cells-sum : (bytes : List ℕ) (width : ℕ) (r : Reply) (ws tables : List ℕ) (g : ℕ) → AreBytes bytes → AreCells bytes width r ws tables → length tables ≡ table_cells * width → g < width → sum (row_at tables table_cells g) ≤ sum ws
cells-sum bytes width r ws tables g small cells long l =
    let row = row_at tables 256 g in
    let all : sum row ≡ sum_below 256 (λ v. get_or row v 0) = sum_by-below (λ (n : ℕ). n) row 0 ∙ ap (λ m. sum_below m (λ v. get_or row v 0)) (row-full tables 256 width g long l) in
    let parts = passing bytes width r ws tables (λ v. true) g cells small l in
    let le = sum_below-le (length ws) (λ i. cond (agrees_in (row_at bytes width i) r && true) (get_or ws i 0) 0) (λ i. get_or ws i 0) (λ i k. and-le (agrees_in (row_at bytes width i) r) (get_or ws i 0)) in
    let whole = sum_by-below (λ (n : ℕ). n) ws 0 in
    omega arith
