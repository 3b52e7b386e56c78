-- Rows of bytes that are put one behind another.
use Rattle.ls_weight.proofs.Vocabulary.{◌%◌, ◌*◌, ◌+◌, ◌/◌, ◌<◌, ◌∙◌, ◌≡◌, ◌≤◌, AreRows, Items, List, ℕ, ap, arith, bit_at, cases_lt, drop, empty, eqb, get_or, get_or-drop, get_or-take, has, has_in, inl, inr, length, length-take, mul-add, mul-le-mul_left, mul-one, row_at, sym, take, width_of}
use Rattle.ls_weight.proofs.Passing.{row-index}

-- rows with the same byte for the item both have it or lack it
has_in-same : (xs ys : List ℕ) (q : ℕ) → get_or xs (q / 8) 0 ≡ get_or ys (q / 8) 0 → has_in xs q ≡ has_in ys q
has_in-same xs ys q e = ap (λ b. eqb (bit_at b (q % 8)) 1) e

pub rows-next : (n : ℕ) (states : List Items) (i : ℕ) (state : Items) (bytes new : List ℕ) → AreRows n (take i states) bytes → i < length states → state ≡ get_or states i empty → length new ≡ length bytes + width_of n → take (length bytes) new ≡ bytes → ((q : ℕ) → q < 8 * width_of n → has_in (drop (length bytes) new) q ≡ has state q) → AreRows n (take (i + 1) states) new
rows-next n states i state bytes new rows l same long before row =
    let w = width_of n in
    let more : w * (i + 1) ≡ w * i + w * 1 = mul-add w i 1 in
    let one = mul-one w in
    let count : length (take i states) ≡ i = omega (arith, length-take i states) in
    let count-next : length (take (i + 1) states) ≡ i + 1 = omega (arith, length-take (i + 1) states) in
    let old : length bytes ≡ w * i = rows.each ∙ ap (λ m. w * m) count in
    record {
      each = rw count-next (omega arith);
      digits = λ k q b c. elim (cases_lt k i) [
        | inl lt ↦
            let far : w * (k + 1) ≤ w * i = mul-le-mul_left w (let e : k + 1 ≤ i = omega arith in e) in
            let here : w * (k + 1) ≡ w * k + w * 1 = mul-add w k 1 in
            has_in-same (row_at new w k) (row_at bytes w k) q (
            row-index new w k (q / 8) 0 (omega arith)
            ∙ sym (get_or-take (length bytes) new (w * k + q / 8) 0 (omega arith))
            ∙ ap (λ l. get_or l (w * k + q / 8) 0) before
            ∙ sym (row-index bytes w k (q / 8) 0 (omega arith)))
            ∙ rows.digits k q (omega arith) c
            ∙ ap (λ s. has s q) (get_or-take i states k empty lt ∙ sym (get_or-take (i + 1) states k empty (omega arith)))
        | inr ge ↦
            let this : k ≡ i = omega arith in
            has_in-same (row_at new w k) (drop (length bytes) new) q (
            row-index new w k (q / 8) 0 (omega arith)
            ∙ ap (λ m. get_or new (w * m + q / 8) 0) this
            ∙ ap (λ m. get_or new (m + q / 8) 0) (sym old)
            ∙ sym (get_or-drop (length bytes) new (q / 8) 0))
            ∙ row q (omega arith)
            ∙ ap (λ s. has s q) (same ∙ ap (λ m. get_or states m empty) (sym this) ∙ sym (get_or-take (i + 1) states k empty (omega arith)))
      ];
    }
