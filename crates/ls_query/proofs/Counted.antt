-- What the count of the blocks keeps as it goes on, and what is made of it.
use Rattle.ls_query.proofs.Vocabulary.{◌+◌, ◌-◌, ◌<◌, ◌∙◌, ◌≡◌, ◌≢◌, ◌≤◌, ◌⊎◌, BadBlock, Err, None, Ok, Result, Some, TooWide, ℕ, arith, blocks, choose, eq-eqb, false, find, find_none, inl, inr, is_too_wide, le-ltb, length, lt-ltb, made, max, most_sets, ne_eqb, numbers_from, refl, suc, sym, true, zero}
use Rattle.std.specs.Result.{IsOk}
use Rattle.ls_query.proofs.Binomials.{choose-none}
use Rattle.ls_query.proofs.BySize.{length-blocks_more, length-blocks_shorter, choose-within}

pub length-blocks_next : (n size : ℕ) → length (blocks n (size + 1)) ≡ length (blocks n size) + choose n (size + 1)
length-blocks_next n size = let e : size + 1 ≡ suc size = omega arith in rw e (length-blocks_more n size)

pub choose-few : (n size most : ℕ) → length (blocks n size) ≤ most → 1 ≤ most → choose n size ≤ most
choose-few n zero most h l = omega (arith, choose-none n)
choose-few n (suc size) most h l = omega (arith, h, choose-within n (suc size) (suc size) (omega arith) (omega arith))

pub too_wide : (n size : ℕ) → most_sets < length (blocks n size) → is_too_wide n size ≡ true
unfolding is_too_wide
too_wide n size h = lt-ltb most_sets (length (blocks n size)) h

pub not_too_wide : (n size : ℕ) → length (blocks n size) ≤ most_sets → is_too_wide n size ≡ false
unfolding is_too_wide
not_too_wide n size h = le-ltb most_sets (length (blocks n size)) h

-- blocks that are not too many are not too many up to any size
pub none_too_wide : (n k : ℕ) → length (blocks n k) ≤ most_sets → find (is_too_wide n) (numbers_from 1 k) ≡ None
none_too_wide n k h =
    find_none (is_too_wide n) 1 k (λ j l m.
    not_too_wide n j (omega (arith, length-blocks_shorter n j k (omega arith), h)))

-- so the count of them succeeds
pub counted : (n k : ℕ) (r : Result ℕ ℕ) → length (blocks n k) ≤ most_sets → ((size : ℕ) → r ≡ Err size → find (is_too_wide n) (numbers_from 1 k) ≡ Some size) → IsOk r
counted n k (Ok x) h past = refl
counted n k (Err size) h past = let e = sym (none_too_wide n k h) ∙ past size refl in cc

-- ---- what is made

pub made-bad : (n k : ℕ) → (k ≡ 0) ⊎ (max 1 (n - 1) < k) → made n k ≡ Err BadBlock
unfolding made
made-bad n k c = elim c [
  | inl e ↦ rw (eq-eqb k 0 e) refl
  | inr l ↦ rw (ne_eqb k 0 (λ e. omega arith), lt-ltb (max 1 (n - 1)) k l) refl
]

pub made-ok : (n k : ℕ) → k ≢ 0 → k ≤ max 1 (n - 1) → find (is_too_wide n) (numbers_from 1 k) ≡ None → made n k ≡ Ok (record { item_count = n; largest = k })
unfolding made
made-ok n k z l e = rw (ne_eqb k 0 z, le-ltb (max 1 (n - 1)) k l, e) refl

pub made-wide : (n k size : ℕ) → k ≢ 0 → k ≤ max 1 (n - 1) → find (is_too_wide n) (numbers_from 1 k) ≡ Some size → made n k ≡ Err (TooWide size)
unfolding made
made-wide n k size z l e = rw (ne_eqb k 0 z, le-ltb (max 1 (n - 1)) k l, e) refl
