-- Where the first line end is, by a search for its byte.
use Rattle.ls_cutting.proofs.Vocabulary.{◌<◌, ◌∙◌, ◌≡◌, List, None, Some, ℕ, ap, arith, cond, false_from_ne_true, le-ltb, length, lt-ltb, ltb, position, position_or_len, position_or_len_is, refl, sym}
use Rattle.std.specs.declared.option.Option.{Option}
use Rattle.memchr.specs.Find.{IsFirstByte, is_byte}

-- the place as `position` tells it
abbrev placed_at : ℕ → ℕ → Option ℕ
placed_at i n = cond (ltb i n) (Some i) None

pub first_byte-position : (byte : ℕ) (bytes : List ℕ) (r : Option ℕ) → IsFirstByte (is_byte byte) bytes r → r ≡ position (is_byte byte) bytes
first_byte-position byte bytes None h =
    let n = length bytes in
    let none : position_or_len (is_byte byte) bytes ≡ n = position_or_len_is (is_byte byte) bytes n 0 (omega arith) (λ k l. false_from_ne_true _ (h k (omega arith) l)) (λ l. absurd (omega arith)) in
    sym (ap (λ i. placed_at i n) none ∙ rw (le-ltb n n (omega arith)) refl)
first_byte-position byte bytes (Some k) h =
    let n = length bytes in
    let high : k < n = h.0.high in
    let at : position_or_len (is_byte byte) bytes ≡ k = position_or_len_is (is_byte byte) bytes k 0 (omega arith) (λ j l. false_from_ne_true _ (h.0.before j (omega arith) l)) (λ l. h.1) in
    sym (ap (λ i. placed_at i n) at ∙ rw (lt-ltb k n high) refl)
