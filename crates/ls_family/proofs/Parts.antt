-- The parts of a line.
use Rattle.ls_family.proofs.Vocabulary.{◌+◌, ◌<◌, ◌==◌, ◌∙◌, ◌≡◌, List, None, Option, Some, ℕ, ap, arith, cond, drop, false, is_blank, length, list_all, ltb, position, position_or_len, refl, sym, take, true, until_brace}
use Rattle.std.proofs.lemmas.List.Sums.{position_or_len_is}
use Rattle.std.proofs.lemmas.Bool.{false_from_ne_true, le-ltb, lt-ltb}
use Rattle.memchr.specs.Find.{IsFirstByte, is_byte}

pub until_brace-none : (line : List ℕ) → None ≡ position (λ b. b == 125) line → until_brace line ≡ None
until_brace-none line e = rw (← e) refl

pub until_brace-blank : (line : List ℕ) (i : ℕ) → Some i ≡ position (λ b. b == 125) line → list_all is_blank (drop (i + 1) line) ≡ true → until_brace line ≡ Some (take i line)
until_brace-blank line i e blank = rw (← e, blank) refl

pub until_brace-more : (line : List ℕ) (i : ℕ) → Some i ≡ position (λ b. b == 125) line → list_all is_blank (drop (i + 1) line) ≡ false → until_brace line ≡ None
until_brace-more line i e more = rw (← e, more) refl

-- ---- the first place of a byte

-- the place as `position` tells it
abbrev placed_at : ℕ → ℕ → Option ℕ
placed_at i n = cond (ltb i n) (Some i) None

pub first_byte-position : (byte : ℕ) (bytes : List ℕ) (r : Option ℕ) → IsFirstByte (is_byte byte) bytes r → r ≡ position (is_byte byte) bytes
first_byte-position byte bytes None h =
    let n = length bytes in
    let none : position_or_len (is_byte byte) bytes ≡ n = position_or_len_is (is_byte byte) bytes n 0 (omega arith) (λ k l. false_from_ne_true _ (h k (omega arith) l)) (λ l. absurd (omega arith)) in
    sym (ap (λ i. placed_at i n) none ∙ rw (le-ltb n n (omega arith)) refl)
first_byte-position byte bytes (Some k) h =
    let n = length bytes in
    let high : k < n = h.0.high in
    let at : position_or_len (is_byte byte) bytes ≡ k = position_or_len_is (is_byte byte) bytes k 0 (omega arith) (λ j l. false_from_ne_true _ (h.0.before j (omega arith) l)) (λ l. h.1) in
    sym (ap (λ i. placed_at i n) at ∙ rw (lt-ltb k n high) refl)
