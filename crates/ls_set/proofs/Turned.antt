-- A digit of a cursor, by the bits of its four items.
use Rattle.ls_set.proofs.Vocabulary.{◌%◌, ◌*◌, ◌+◌, ◌/◌, ◌<◌, ◌^◌, ◌∙◌, ◌≡◌, Bool, Items, ℕ, agree_below_at, ap, arith, bit_at, bit_at_cat_low, codes, cond, div-add-mod', eqb, eqb-true, get_or, has, hex, nibble_of, refl, shr-shr, sym, true}

-- four bits as a digit's value, the first as the highest
abbrev nibble : Bool → Bool → Bool → Bool → ℕ
nibble a b c d = 8 * cond a 1 0 + 4 * cond b 1 0 + 2 * cond c 1 0 + cond d 1 0

abbrev bit : ℕ → ℕ → Bool
bit v j = eqb (bit_at v j) 1

turned : (v : ℕ) → v < 16 → get_or (codes "084c2a6e195d3b7f") v 0 ≡ get_or hex (nibble (bit v 0) (bit v 1) (bit v 2) (bit v 3)) 0
turned v h = eqb-true _ _ (agree_below_at (λ v. eqb (get_or (codes "084c2a6e195d3b7f") v 0) (get_or hex (nibble (bit v 0) (bit v 1) (bit v 2) (bit v 3)) 0)) (λ _. true) 16 v refl h)

four : (s : Items) (p : ℕ) (a b c d : Bool) → a ≡ has s (4 * p) → b ≡ has s (4 * p + 1) → c ≡ has s (4 * p + 2) → d ≡ has s (4 * p + 3) → nibble a b c d ≡ nibble_of s p
four s p a b c d ea eb ec ed = cc

pub turned-digit : (s : Items) (p v : ℕ) → v < 16 → ((j : ℕ) → j < 4 → bit v j ≡ has s (4 * p + j)) → get_or (codes "084c2a6e195d3b7f") v 0 ≡ get_or hex (nibble_of s p) 0
turned-digit s p v few bits =
    turned v few ∙ ap (λ x. get_or hex x 0) (four s p (bit v 0) (bit v 1) (bit v 2) (bit v 3)
    (bits 0 (omega arith) ∙ ap (has s) (let e : 4 * p + 0 ≡ 4 * p = omega arith in e)) (bits 1 (omega arith)) (bits 2 (omega arith)) (bits 3 (omega arith)))

-- ---- the two halves of eight bits

pub low_half : (v j : ℕ) → j < 4 → bit_at (v % 16) j ≡ bit_at v j
low_half v j h = sym (bit_at_cat_low (v / 2 ^ 4) 4 (v % 2 ^ 4) j h) ∙ ap (λ m. bit_at m j) (div-add-mod' v (2 ^ 4))

pub high_half : (v j : ℕ) → bit_at (v / 16) j ≡ bit_at v (4 + j)
high_half v j = ap (λ m. m % 2) (shr-shr v 4 j)
