-- What a pass over the states adds up.
use Rattle.ls_weight.proofs.Vocabulary.{◌&&◌, ◌*◌, ◌+◌, ◌-◌, ◌<◌, ◌∙◌, ◌≡◌, ◌≤◌, All, Bool, IsColumn, List, Reply, ℕ, agrees_at, agrees_in, ap, arith, cases_Bool, cases_lt, cell_of, cond, drop, eqb, eqb-true, false, get_or, get_or_past, get_or-drop, get_or-le-sum_by, get_or-map, get_or-set_other, get_or-set_same, get_or-take, inl, inr, length, length-drop, length-take, map, mul-add, mul-le-mul_left, mul-le-mul_right, mul-one, nat_tests, not, refl, row_at, set, sum, sum_below, sym, take, true}
use Rattle.ls_weight.proofs.SumsBelow.{sum_below-next, sum_below-over, sum_below-le, sum_below-fewer, sum_by-below}

-- the part of the bytes for a state is its row
pub row-is : (bytes : List ℕ) (width i : ℕ) → take (width * (i + 1) - width * i) (drop (width * i) bytes) ≡ row_at bytes width i
row-is bytes width i =
    let next : width * (i + 1) ≡ width * i + width * 1 = mul-add width i 1 in
    let one = mul-one width in
    ap (λ n. take n (drop (width * i) bytes)) (let e : width * (i + 1) - width * i ≡ width = omega arith in e)

pub part-le : (p : Bool) (w : ℕ) → cond p w 0 ≤ w
part-le true w = omega arith
part-le false w = omega arith

-- some of the first numbers of a list, and one more, come to no more than all
pub some-fit : (p : ℕ → Bool) (ws : List ℕ) (i : ℕ) → i < length ws → sum_below i (λ j. cond (p j) (get_or ws j 0) 0) + get_or ws i 0 ≤ sum ws
some-fit p ws i l =
    let w = λ (j : ℕ). get_or ws j 0 in
    let part = sum_below-le i (λ j. cond (p j) (w j) 0) w (λ j k. part-le (p j) (w j)) in
    let next = sum_below-next i w in
    let all = sum_below-fewer (i + 1) (length ws) w (omega arith) in
    let whole = sum_by-below (λ (n : ℕ). n) ws 0 in
    omega arith

-- what is below a bound for the sum of the weights is so for each weight
pub products-fit : (ws : List ℕ) (a b : ℕ) → 1 ≤ a → sum ws * a < b → All (λ w. w * a < b) ws × (sum ws < b)
products-fit ws a b l fits =
    let own : sum ws * 1 ≤ sum ws * a = mul-le-mul_left (sum ws) l in
    (λ i d k. let most : get_or ws i d * a ≤ sum ws * a = mul-le-mul_right a (get_or-le-sum_by (λ (n : ℕ). n) ws i d k) in omega arith, omega arith)

-- a cell and one more weight come to no more than all weights
pub cell-fits : (bytes : List ℕ) (width : ℕ) (r : Reply) (ws : List ℕ) (i g v : ℕ) → i < length ws → cell_of bytes width r ws i g v + get_or ws i 0 ≤ sum ws
cell-fits bytes width r ws i g v = some-fit (λ j. agrees_in (row_at bytes width j) r && eqb (get_or (row_at bytes width j) g 0) v) ws i

-- ---- one more state

pub written-done : (ws : List ℕ) (i y : ℕ) (f : ℕ → ℕ) → ((k : ℕ) → k < i → get_or ws k 0 ≡ f k) → i < length ws → y ≡ f i → (k : ℕ) → k < i + 1 → get_or (set ws i y) k 0 ≡ f k
written-done ws i y f h l e k b = elim (cases_lt k i) [
  | inl lt ↦ get_or-set_other ws i k y 0 (omega arith) ∙ h k lt
  | inr ge ↦ let same : k ≡ i = omega arith in rw same (get_or-set_same ws i y 0 l ∙ e)
]

pub written-left : (ws : List ℕ) (i y : ℕ) (f : ℕ → ℕ) → ((k : ℕ) → i ≤ k → get_or ws k 0 ≡ f k) → (k : ℕ) → i + 1 ≤ k → get_or (set ws i y) k 0 ≡ f k
written-left ws i y f h k b = get_or-set_other ws i k y 0 (omega arith) ∙ h k (omega arith)

-- what is in a row is in the bytes
pub row-index : (bytes : List ℕ) (width i g d : ℕ) → g < width → get_or (row_at bytes width i) g d ≡ get_or bytes (width * i + g) d
row-index bytes width i g d l = get_or-take width (drop (width * i) bytes) g d l ∙ get_or-drop (width * i) bytes g d

pub row-long : (bytes : List ℕ) (width i g : ℕ) → g < length (row_at bytes width i) → g < width
row-long bytes width i g l = omega (arith, length-take width (drop (width * i) bytes))

pub row-full : (bytes : List ℕ) (width m i : ℕ) → length bytes ≡ width * m → i < m → length (row_at bytes width i) ≡ width
row-full bytes width m i e l =
    let next : width * (i + 1) ≡ width * i + width * 1 = mul-add width i 1 in
    let one = mul-one width in
    let most : width * (i + 1) ≤ width * m = mul-le-mul_left width (let k : i + 1 ≤ m = omega arith in k) in
    omega (arith, length-take width (drop (width * i) bytes), length-drop (width * i) bytes)

pub cell-next : (bytes : List ℕ) (width : ℕ) (r : Reply) (ws : List ℕ) (i g v : ℕ) → cell_of bytes width r ws i g v + cond (agrees_in (row_at bytes width i) r && eqb (get_or (row_at bytes width i) g 0) v) (get_or ws i 0) 0 ≡ cell_of bytes width r ws (i + 1) g v
cell-next bytes width r ws i g v = sym (sum_below-next i (λ j. cond (agrees_in (row_at bytes width j) r && eqb (get_or (row_at bytes width j) g 0) v) (get_or ws j 0) 0))

-- states that don't agree, and places behind the last state, add nothing
pub cell-over : (bytes : List ℕ) (width : ℕ) (r : Reply) (ws : List ℕ) (m n g v : ℕ) → m ≤ n → ((k : ℕ) → m ≤ k → k < n → k < length ws → agrees_in (row_at bytes width k) r ≡ false) → cell_of bytes width r ws m g v ≡ cell_of bytes width r ws n g v
cell-over bytes width r ws m n g v l h =
    sum_below-over m n _ l (λ k a b. elim (cases_lt k (length ws)) [
      | inl lt ↦ rw (h k a b lt) refl
      | inr ge ↦
          let none = get_or_past ws k 0 ge in
          let le = part-le (agrees_in (row_at bytes width k) r && eqb (get_or (row_at bytes width k) g 0) v) (get_or ws k 0) in
          omega arith
    ])

-- places in the column agree as rows do
pub column-agrees : (column bytes : List ℕ) (width m k : ℕ) (r : Reply) → IsColumn column bytes width r.q m → k < m → agrees_at column r.right k ≡ agrees_in (row_at bytes width k) r
column-agrees column bytes width m k r h l = ap (λ b. cond r.right b (not b)) (h.marks k l)

-- what is read at a place, as a number
pub number-at : {X : Type 0} (number : X → ℕ) (xs : List X) (i : ℕ) (x : X) → i < length xs → x ≡ get_or xs i x → number x ≡ get_or (map number xs) i 0
number-at number xs i x l e = ap number e ∙ sym (get_or-map number xs i x 0 l)

-- a weight that is added to the cell of a byte
pub cell-added : (cells : List ℕ) (start b v w : ℕ) → start + b < length cells → get_or (set cells (start + b) (get_or cells (start + b) 0 + w)) (start + v) 0 ≡ get_or cells (start + v) 0 + cond (eqb b v) w 0
cell-added cells start b v w l = elim (cases_Bool (eqb b v)) [
  | inl e ↦ let same : b ≡ v = eqb-true b v e in rw (e, ← same) (get_or-set_same cells (start + b) (get_or cells (start + b) 0 + w) 0 l)
  | inr e ↦ rw e (get_or-set_other cells (start + b) (start + v) (get_or cells (start + b) 0 + w) 0 (grind (arith, nat_tests)) ∙ (let z : _ ≡ _ = omega arith in z))
]

-- ---- a step to the next state that agrees

-- the weights of the states before a place that agree are multiplied by a, and no others
pub record AreWeighed (agrees : ℕ → Bool) (a : ℕ) (old new : List ℕ) (i : ℕ) : Type 0 where
  pub done : (k : ℕ) → k < i → k < length old → get_or new k 0 ≡ get_or old k 0 * cond (agrees k) a 1
  pub left : (k : ℕ) → i ≤ k → get_or new k 0 ≡ get_or old k 0

pub weighed-none : (agrees : ℕ → Bool) (a : ℕ) (old : List ℕ) (i : ℕ) → ((k : ℕ) → k < i → k < length old → agrees k ≡ false) → AreWeighed agrees a old old i
weighed-none agrees a old i h = record { done = λ k b c. rw (h k b c) (sym (mul-one (get_or old k 0))); left = λ k b. refl }

pub weighed-next : (agrees : ℕ → Bool) (a : ℕ) (old new : List ℕ) (i j y : ℕ) → AreWeighed agrees a old new i → length new ≡ length old → i < length old → agrees i ≡ true → y ≡ get_or old i 0 * a → i + 1 ≤ j → ((k : ℕ) → i + 1 ≤ k → k < j → k < length old → agrees k ≡ false) → AreWeighed agrees a old (set new i y) j
weighed-next agrees a old new i j y h long here own e l none = record {
  done = λ k b c. elim (cases_lt k i) [
    | inl lt ↦ get_or-set_other new i k y 0 (omega arith) ∙ h.done k lt c
    | inr ge ↦ elim (cases_lt i k) [
      | inl lt ↦ rw (none k (omega arith) b c) (get_or-set_other new i k y 0 (omega arith) ∙ h.left k ge ∙ sym (mul-one (get_or old k 0)))
      | inr le ↦ let same : k ≡ i = omega arith in rw (same, own) (get_or-set_same new i y 0 (omega arith) ∙ e)
    ]
  ];
  left = λ k b. get_or-set_other new i k y 0 (omega arith) ∙ h.left k (omega arith);
}

-- ---- what agrees is multiplied first, and then the others

pub factors : (w a b : ℕ) (t : Bool) → w * cond t a 1 * cond t 1 b ≡ w * cond t a b
factors w a b true = mul-one (w * a)
factors w a b false = ap (λ n. n * b) (mul-one w)

pub factor-le : (w a b : ℕ) (t : Bool) → b ≤ a → w * cond t a b ≤ w * a
factor-le w a b true l = omega arith
factor-le w a b false l = mul-le-mul_left w l
