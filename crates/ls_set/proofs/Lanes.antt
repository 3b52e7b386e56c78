-- Sets of lanes of 64 digits: what is done lane by lane is done to the set.
use Rattle.ls_set.proofs.Vocabulary.{None, not, set_of_lanes, bit_at_above, lt-ltb, ltb, ◌≤◌, Bool, cond, true, div-add-mod', bit_at_cat_low, lt-ltb, le-ltb, ne_eqb, false, digits_up_to, lane_at, lanes_up_to, AreShort, List, length, joined, get_or, zero, suc, map, numbers_from, digits_at, ◌∷◌, [], ◌%◌, ◌&&◌, ◌*◌, ◌+◌, ◌-◌, ◌/◌, ◌<◌, ◌^◌, ◌∙◌, ◌≡◌, AreLanes, IsLowest, Items, Some, ℕ, ap, arith, as_set, bit_and, bit_at, bit_at-zero, bit_at_cat_high, bit_at_cat_low, bit_or, bit_xor, cases_lt, cat, differing, div-add-mod', empty, eq-eqb, eqb, full, has, inl, inr, is_same, is_within, keep_before, least, lt_of_le_of_lt, meet, minus, nat_tests, ones, ones_cat, refl, sym}
use Rattle.std.proofs.lemmas.Nat.{and_mask, xor_lt, and_le_l, le_or_l, le_or_r, or_lt, pow-add, pow_pos}
use Rattle.ls_set.proofs.Sets.{and-false, has-empty, has-differing, has-full, has-minus, same_set, both_ways, Decides-is_same, IsWithin-from, is_within-from}
use Rattle.ls_set.proofs.Ascending.{least-at, least-none}
use Rattle.std.proofs.Common.{drop}
use lib.Lanes.{fold_l, zip2}
use Rattle.std.proofs.lemmas.Simd.{length-zip2}

-- ---- the empty set, and what is told by it

pub differing_empty : (s t : Items) → is_same (differing s t) empty ≡ is_same s t
differing_empty s t = both_ways (is_same (differing s t) empty) (is_same s t)
    (λ h. let e = (Decides-is_same (differing s t) empty).0 h in (Decides-is_same s t).1 (same_set s t (λ i. grind (arith, has-differing s t i, ap (λ r. has r i) e, has-empty i))))
    (λ h. let e = (Decides-is_same s t).0 h in (Decides-is_same (differing s t) empty).1 (same_set (differing s t) empty (λ i. grind (arith, has-differing s t i, ap (λ r. has r i) e, has-empty i))))

-- as `==` of sets tells it
pub differing_digits : (s t : Items) → is_same (differing s t) empty ≡ eqb s.digits t.digits
unfolding is_same
differing_digits s t = differing_empty s t

-- the items below i are those in the set of all below i
pub meet_full : (s : Items) (i : ℕ) → meet s (full i) ≡ keep_before s i
unfolding meet full keep_before
meet_full s i = ap as_set (and_mask s.digits i)

pub minus_empty : (s t : Items) → is_same (minus s t) empty ≡ is_within s t
minus_empty s t = both_ways (is_same (minus s t) empty) (is_within s t)
    (λ h. let e = (Decides-is_same (minus s t) empty).0 h in is_within-from s t (λ i a. grind (arith, has-minus s t i, ap (λ r. has r i) e, has-empty i, a)))
    (λ h. (Decides-is_same (minus s t) empty).1 (same_set (minus s t) empty (λ i. grind (arith, has-minus s t i, has-empty i, IsWithin-from s t h i))))

-- ---- lane by lane

-- the operation on two numbers is that on their lowest lanes and that on their others
abbrev IsByLane : (ℕ → ℕ → ℕ) → Type 0
IsByLane o = (a b r s : ℕ) → r < 2 ^ 64 → s < 2 ^ 64 → o (a * 2 ^ 64 + r) (b * 2 ^ 64 + s) ≡ o a b * 2 ^ 64 + o r s

abbrev IsShort : (ℕ → ℕ → ℕ) → Type 0
IsShort o = (r s : ℕ) → r < 2 ^ 64 → s < 2 ^ 64 → o r s < 2 ^ 64

module _ (o : ℕ → ℕ → ℕ) where
  pub short_lanes : IsShort o → (xs ys : List ℕ) → AreShort xs → AreShort ys → AreShort (zip2 o xs ys)
  short_lanes f [] ys h k = tt
  short_lanes f (x ∷ xs) [] h k = tt
  short_lanes f (x ∷ xs) (y ∷ ys) h k = (f x y h.0 k.0, short_lanes f xs ys h.1 k.1)

  pub are_lanes : IsShort o → (xs ys : List ℕ) → AreLanes xs → AreLanes ys → AreLanes (zip2 o xs ys)
  are_lanes f xs ys h k = (length-zip2 o xs ys (h.0 ∙ sym k.0) ∙ h.0, short_lanes f xs ys h.1 k.1)

  pub by_lane : IsByLane o → o 0 0 ≡ 0 → (xs ys : List ℕ) → length xs ≡ length ys → AreShort xs → AreShort ys → joined (zip2 o xs ys) ≡ o (joined xs) (joined ys)
  unfolding cat
  by_lane w z [] [] e h k = sym z
  by_lane w z [] (y ∷ ys) e h k = omega arith
  by_lane w z (x ∷ xs) [] e h k = omega arith
  by_lane w z (x ∷ xs) (y ∷ ys) e h k =
      ap (λ m. m * 2 ^ 64 + o x y) (by_lane w z xs ys (omega arith) h.1 k.1) ∙ sym (w (joined xs) (joined ys) x y h.0 k.0)

pub or_lanes : IsShort bit_or
or_lanes r s h k = or_lt 64 r s h k

pub and_lanes : IsShort bit_and
and_lanes r s h k = lt_of_le_of_lt (and_le_l r s) h

pub xor_lanes : IsShort bit_xor
xor_lanes r s h k = xor_lt 64 r s h k

-- ---- the digits of a lane

pub digit_in : (w n i : ℕ) → i < 64 → bit_at (cat w n) i ≡ bit_at w i
unfolding cat
digit_in w n i h = bit_at_cat_low n 64 w i h

pub digit_past : (w n i j : ℕ) → w < 2 ^ 64 → i ≡ 64 + j → bit_at (cat w n) i ≡ bit_at n j
unfolding cat
digit_past w n i j h e = bit_at_cat_high n 64 w i h (omega arith) ∙ ap (bit_at n) (let k : i - 64 ≡ j = omega arith in k)

pub digit_of_lane : (ws : List ℕ) → AreShort ws → (k j i : ℕ) → j < 64 → i ≡ 64 * k + j → bit_at (joined ws) i ≡ bit_at (get_or ws k 0) j
digit_of_lane [] h k j i l e = bit_at-zero i ∙ sym (bit_at-zero j)
digit_of_lane (w ∷ ws) h zero j i l e = let s : i ≡ j = omega arith in rw s (digit_in w (joined ws) j l)
digit_of_lane (w ∷ ws) h (suc k) j i l e =
    digit_past w (joined ws) i (64 * k + j) h.0 (omega arith) ∙ digit_of_lane ws h.1 k j (64 * k + j) l refl

pub low_byte : (n j : ℕ) → j < 8 → bit_at (n % 2 ^ 8) j ≡ bit_at n j
low_byte n j h = sym (bit_at_cat_low (n / 2 ^ 8) 8 (n % 2 ^ 8) j h) ∙ ap (λ m. bit_at m j) (div-add-mod' n (2 ^ 8))

-- ---- lanes of which one has digits

-- a lane is not one behind it
not_behind : (k p : ℕ) → p < k → eqb k p ≡ false
not_behind k p h = ne_eqb k p (λ e. omega arith)

not_before : (k p : ℕ) → k < p → eqb k p ≡ false
not_before k p h = ne_eqb k p (λ e. omega arith)

pub none_behind : (p d k m : ℕ) → p < k → joined (map (digits_at p d) (numbers_from k m)) ≡ 0
unfolding cat
none_behind p d k zero h = refl
none_behind p d k (suc m) h = rw (none_behind p d (suc k) m (omega arith), not_behind k p h) refl

pub digits_from : (d p m k e : ℕ) → p ≡ k + e → e < m → joined (map (digits_at p d) (numbers_from k m)) ≡ d * 2 ^ (64 * e)
unfolding cat
digits_from d p zero k e at h = omega arith
digits_from d p (suc m) k zero at h = rw (none_behind p d (suc k) m (omega arith), eq-eqb k p (omega arith)) (omega arith)
digits_from d p (suc m) k (suc e) at h =
    let s : p ≡ suc k + e = omega arith in
    let t = pow-add 2 (64 * e) 64 in
    let q : 64 * suc e ≡ 64 * e + 64 = omega arith in
    rw (digits_from d p m (suc k) e s (omega arith), not_before k p (omega arith), q, t) (omega arith)

pub shifted : (i q r : ℕ) → i ≡ 64 * q + r → 2 ^ r * 2 ^ (64 * q) ≡ 2 ^ i
shifted i q r e = let p = pow-add 2 r (64 * q) in let k : r + 64 * q ≡ i = omega arith in rw (← k) (omega arith)

pub single_lanes : (i : ℕ) → i < 512 → joined (lane_at (i / 64) (2 ^ (i % 64))) ≡ 2 ^ i
single_lanes i h =
    let e : i ≡ 64 * (i / 64) + i % 64 = omega arith in
    digits_from (2 ^ (i % 64)) (i / 64) 8 0 (i / 64) (omega arith) (omega arith) ∙ shifted i (i / 64) (i % 64) e

none_behind_all : (p d k m : ℕ) → p < k → joined (map (digits_up_to p d) (numbers_from k m)) ≡ 0
unfolding cat
none_behind_all p d k zero h = refl
none_behind_all p d k (suc m) h = rw (none_behind_all p d (suc k) m (omega arith), not_behind k p h, le-ltb k p (omega arith)) refl

lanes_from : (d p m k e : ℕ) → p ≡ k + e → e ≤ m → (e ≡ m → d ≡ 0) → joined (map (digits_up_to p d) (numbers_from k m)) + 1 ≡ (d + 1) * 2 ^ (64 * e)
unfolding cat
lanes_from d p zero k zero at h z = rw (z refl) refl
lanes_from d p zero k (suc e) at h z = omega arith
lanes_from d p (suc m) k zero at h z = rw (none_behind_all p d (suc k) m (omega arith), eq-eqb k p (omega arith), le-ltb k p (omega arith)) (omega arith)
lanes_from d p (suc m) k (suc e) at h z =
    let s : p ≡ suc k + e = omega arith in
    let t = pow-add 2 (64 * e) 64 in
    let q : 64 * suc e ≡ 64 * e + 64 = omega arith in
    let r = lanes_from d p m (suc k) e s (omega arith) (λ x. z (omega arith)) in
    rw (lt-ltb k p (omega arith), q, t) (omega arith)

pub full_lanes : (n : ℕ) → n ≤ 512 → joined (lanes_up_to (n / 64) (2 ^ (n % 64) - 1)) ≡ 2 ^ n - 1
full_lanes n h =
    let e : n ≡ 64 * (n / 64) + n % 64 = omega arith in
    let p = pow_pos (n % 64) in
    let s = shifted n (n / 64) (n % 64) e in
    let none : n / 64 ≡ 8 → 2 ^ (n % 64) - 1 ≡ 0 = λ x. let z : n % 64 ≡ 0 = omega arith in rw z refl in
    let r = lanes_from (2 ^ (n % 64) - 1) (n / 64) 8 0 (n / 64) (omega arith) (omega arith) none in
    let d : 2 ^ (n % 64) - 1 + 1 ≡ 2 ^ (n % 64) = omega arith in
    let t = r ∙ ap (λ x. x * 2 ^ (64 * (n / 64))) d ∙ s in
    omega arith

short_digits : (b : Bool) (d e : ℕ) → d < 2 ^ 64 → e < 2 ^ 64 → cond b d e < 2 ^ 64
short_digits true d e h k = h
short_digits false d e h k = k

module _ (p d : ℕ) (h : d < 2 ^ 64) where
  pub short_at : (ks : List ℕ) → AreShort (map (digits_at p d) ks)
  short_at [] = tt
  short_at (k ∷ ks) = (short_digits (eqb k p) d 0 h (omega arith), short_at ks)

  pub short_up_to : (ks : List ℕ) → AreShort (map (digits_up_to p d) ks)
  short_up_to [] = tt
  short_up_to (k ∷ ks) = (short_digits (ltb k p) (2 ^ 64 - 1) (digits_at p d k) (omega arith) (short_digits (eqb k p) d 0 h (omega arith)), short_up_to ks)

-- ---- the least item

pub short_lane : (ws : List ℕ) → AreShort ws → (k : ℕ) → get_or ws k 0 < 2 ^ 64
short_lane [] h k = omega arith
short_lane (w ∷ ws) h zero = h.0
short_lane (w ∷ ws) h (suc k) = short_lane ws h.1 k

pub past_lane : (ws : List ℕ) → AreShort ws → (k j : ℕ) → 64 ≤ j → bit_at (get_or ws k 0) j ≡ 0
past_lane ws h k j l = bit_at_above (get_or ws k 0) 64 j (short_lane ws h k) l

past_last : (ws : List ℕ) (k : ℕ) → length ws ≤ k → get_or ws k 0 ≡ 0
past_last [] k l = refl
past_last (w ∷ ws) zero l = omega arith
past_last (w ∷ ws) (suc k) l = past_last ws k (omega arith)

module _ (ws : List ℕ) (h : AreShort ws) (f : ℕ) where
  has_in_lane : (k j i : ℕ) → j < 64 → i ≡ 64 * k + j → has (set_of_lanes ws) i ≡ eqb (bit_at (get_or ws k 0) j) 1
  unfolding has
  has_in_lane k j i l e = ap (λ x. eqb x 1) (digit_of_lane ws h k j i l e)

  none_in_lane : (i : ℕ) → get_or ws (i / 64) 0 ≡ 0 → has (set_of_lanes ws) i ≡ false
  none_in_lane i z = has_in_lane (i / 64) (i % 64) i (omega arith) (omega arith) ∙ rw z (ap (λ x. eqb x 1) (bit_at-zero (i % 64)))

  -- the items in the lanes from f on
  has_from : (i : ℕ) → has (minus (set_of_lanes ws) (full (64 * f))) i ≡ (has (set_of_lanes ws) i && not (ltb i (64 * f)))
  has_from i = has-minus (set_of_lanes ws) (full (64 * f)) i ∙ ap (λ b. has (set_of_lanes ws) i && not b) (has-full (64 * f) i)

  pub least_of_lanes : (p i : ℕ) → f ≤ p → ((k : ℕ) → f ≤ k → k < p → get_or ws k 0 ≡ 0) → i < 64 → IsLowest (get_or ws p 0) i → least (minus (set_of_lanes ws) (full (64 * f))) ≡ Some (64 * p + i)
  least_of_lanes p i m z l low =
      let s = set_of_lanes ws in
      let here : has s (64 * p + i) ≡ true = has_in_lane p i (64 * p + i) l refl ∙ eq-eqb _ _ low.here in
      let none = λ (j : ℕ) (b : j < 64 * p + i) (q : 64 * f ≤ j). elim (cases_lt (j / 64) p) as (λ _. has s j ≡ false) [
        | inl k ↦ none_in_lane j (z (j / 64) (omega arith) k)
        | inr k ↦ has_in_lane p (j % 64) j (omega arith) (omega arith) ∙ ap (λ x. eqb x 1) (low.none_below (j % 64) (omega arith))
      ] in
      least-at _ (64 * p + i) (has_from (64 * p + i) ∙ rw (here, le-ltb (64 * p + i) (64 * f) (omega arith)) refl)
      (λ j b. has_from j ∙ elim (cases_lt j (64 * f)) [
        | inl q ↦ rw (lt-ltb j (64 * f) q) (and-false (has s j))
        | inr q ↦ rw (none j b q) refl
      ])

  pub least_of_none : ((k : ℕ) → f ≤ k → k < length ws → get_or ws k 0 ≡ 0) → least (minus (set_of_lanes ws) (full (64 * f))) ≡ None
  least_of_none z =
      let s = set_of_lanes ws in
      let lane = λ (k : ℕ) (q : f ≤ k). elim (cases_lt k (length ws)) as (λ _. get_or ws k 0 ≡ 0) [ inl l ↦ z k q l | inr l ↦ past_last ws k l ] in
      least-none _ (λ j. has_from j ∙ elim (cases_lt j (64 * f)) [
        | inl q ↦ rw (lt-ltb j (64 * f) q) (and-false (has s j))
        | inr q ↦ rw (none_in_lane j (lane (j / 64) (omega arith))) refl
      ])

pub from_first : (s : Items) → minus s (full (64 * 0)) ≡ s
from_first s = same_set (minus s (full (64 * 0))) s (λ i. grind (arith, nat_tests, has-minus s (full (64 * 0)) i, has-full (64 * 0) i))

-- ---- whether there is a digit

pub tells_digits : (a : ℕ) (ws : List ℕ) → eqb (fold_l bit_or a ws) 0 ≡ (eqb a 0 && eqb (joined ws) 0)
unfolding cat
tells_digits a [] = grind (arith, nat_tests)
tells_digits a (w ∷ ws) = tells_digits (bit_or a w) ws ∙ grind (arith, nat_tests, le_or_l a w, le_or_r a w, or_lt 0 a w)

-- ---- how many digits are 1

suc_one : (i : ℕ) → suc i + 1 ≡ suc (i + 1)
suc_one i = omega arith

no_ones : ones 0 ≡ 0
unfolding ones
no_ones = refl

-- the digits of the lanes from a place on, counted one lane after another
pub ones_from : (ws : List ℕ) → AreShort ws → (i : ℕ) → i < length ws → ones (joined (drop i ws)) ≡ ones (get_or ws i 0) + ones (joined (drop (i + 1) ws))
unfolding cat
ones_from [] h i l = omega arith
ones_from (w ∷ ws) h zero l = let c = ones_cat 64 (joined ws) w h.0 in c ∙ omega arith
ones_from (w ∷ ws) h (suc i) l = rw (suc_one i) (ones_from ws h.1 i (omega arith))

pub ones_past : (ws : List ℕ) (i : ℕ) → length ws ≤ i → ones (joined (drop i ws)) ≡ 0
ones_past [] zero l = no_ones
ones_past [] (suc i) l = no_ones
ones_past (w ∷ ws) zero l = omega arith
ones_past (w ∷ ws) (suc i) l = ones_past ws i (omega arith)
