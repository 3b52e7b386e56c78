-- The digits of a cursor, written two for each group of eight items.
use Rattle.ls_room.proofs.Vocabulary.{◌%◌, ◌*◌, ◌+◌, ◌/◌, ◌<◌, ◌∙◌, ◌≡◌, ◌≤◌, Items, List, ℕ, ap}
use Rattle.ls_room.proofs.Vocabulary.{arith, bit_at, codes, cursor, eqb, get_or, has, hex, inl}
use Rattle.ls_room.proofs.Vocabulary.{inr, length, nibble_of, take}
use Rattle.std.proofs.Common.{length-take-le}
use Rattle.std.proofs.Math.ListN.{length-set, set}
use Rattle.std.proofs.lemmas.Bool.{cases_eq}
use Rattle.std.proofs.lemmas.Grind.{get_or-set_at}
use Rattle.std.proofs.lemmas.List.{get_or-set_other, get_or-take}
use Rattle.ls_set.proofs.Numbers.{same-map-numbers}
use Rattle.ls_set.proofs.Turned.{high_half, low_half, turned-digit}
use Rattle.ls_set.specs.{cursor_length}

-- the digit of the four items from 4 * p on
abbrev digit_of : Items → ℕ → ℕ
digit_of s p = get_or hex (nibble_of s p) 0

-- the digit of four bits, the first of which is the lowest
abbrev pub turned : ℕ → ℕ
turned v = get_or (codes "084c2a6e195d3b7f") v 0

-- the first m digits are the set's
abbrev pub AreWritten : Items → List ℕ → ℕ → Type 0
AreWritten s digits m = (k : ℕ) → k < m → get_or digits k 0 ≡ digit_of s k

module _ (s : Items) where
  -- one more is written
  more : (digits : List ℕ) (m d : ℕ) → m < length digits → d ≡ digit_of s m → AreWritten s digits m
      → AreWritten s (set digits m d) (m + 1)
  more digits m d fits e h k l =
      elim (cases_eq k m) [
        | inl at ↦
            let back : m ≡ k = omega arith in
            get_or-set_at digits m k d 0 at fits ∙ e ∙ ap (digit_of s) back
        | inr n ↦ get_or-set_other digits m k d 0 n ∙ h k (omega arith)
      ]

  -- two more are
  two : (digits : List ℕ) (m d e : ℕ) → m + 1 < length digits
      → d ≡ digit_of s m → e ≡ digit_of s (m + 1)
      → AreWritten s digits m → AreWritten s (set (set digits m d) (m + 1) e) (m + 1 + 1)
  two digits m d e fits first second h =
      more (set digits m d) (m + 1) e (omega (arith, length-set digits m d)) second
      (more digits m d (omega arith) first h)

  pub cursor-written : (digits : List ℕ) (n : ℕ) → cursor_length n ≤ length digits
      → AreWritten s digits (cursor_length n) → take (cursor_length n) digits ≡ cursor n s
  unfolding cursor
  cursor-written digits n fits h =
      let m = cursor_length n in
      let long = length-take-le m digits fits in
      same-map-numbers (digit_of s) m (take m digits) long (λ k l.
      let few : k < m = omega (arith, long) in
      get_or-take m digits k 0 few ∙ h k few)

  -- the two digits of a group's pattern are written
  pub group-written : (digits : List ℕ) (g v : ℕ) → v < 256 → 2 * g + 1 < length digits
      → ((j : ℕ) → j < 8 → eqb (bit_at v j) 1 ≡ has s (8 * g + j)) → AreWritten s digits (2 * g)
      → AreWritten s (set (set digits (2 * g) (turned (v % 16))) (2 * g + 1) (turned (v / 16)))
      (2 * (g + 1))
  group-written digits g v byte fits bits h =
      let low = turned-digit s (2 * g) (v % 16) (omega arith) (λ j l.
      let at : 8 * g + j ≡ 4 * (2 * g) + j = omega arith in
      ap (λ x. eqb x 1) (low_half v j l) ∙ bits j (omega arith) ∙ ap (has s) at) in
      let high = turned-digit s (2 * g + 1) (v / 16) (omega arith) (λ j l.
      let at : 8 * g + (4 + j) ≡ 4 * (2 * g + 1) + j = omega arith in
      ap (λ x. eqb x 1) (high_half v j) ∙ bits (4 + j) (omega arith) ∙ ap (has s) at) in
      λ k l. two digits (2 * g) (turned (v % 16)) (turned (v / 16)) fits low high h k (omega arith)
