-- The words of a line of words.
use Rattle.ls_cutting.proofs.Vocabulary.{◌&&◌, ◌++◌, ◌-◌, ◌==◌, ◌∙◌, ◌∷◌, ◌≡◌, ◌⊎◌, Bool, List, Text, ℕ, [], ap, append-nil, append_assoc, arith, false, inl, inr, is_blank, is_cursor_byte, is_note, length, list_all, list_all-append, nat_tests, never, not, parts_words, refl, slice_index, suc, sym, true, words, words_joined, zero}
use Rattle.std.proofs.lemmas.Bool.{lt-ltb, and_parts, not-true}
use Rattle.ls_cutting.proofs.Runs.{word_of, stands_alone, runs_from, runs-byte_by_byte}
use Rattle.ls_cutting.proofs.Solid.{IsSolid}

-- a word that a line is cut into: of cursor bytes, or a colon or a bar by itself
abbrev pub IsWord : Text → Type 0
IsWord w = IsSolid w ⊎ ((w ≡ 58 ∷ []) ⊎ (w ≡ 124 ∷ []))

abbrev pub AreWords : List Text → Type 0
AreWords [] = Unit {0}
AreWords (w ∷ ws) = IsWord w × AreWords ws

-- a cursor byte goes on with a run
cursor_byte-parts : (b : ℕ) → is_cursor_byte b ≡ true → parts_words b ≡ false
cursor_byte-parts b h = grind (arith, nat_tests)

cursor_byte-alone : (b : ℕ) → is_cursor_byte b ≡ true → stands_alone b ≡ false
cursor_byte-alone b h = grind (arith, nat_tests)

run_on : (run w bs : List ℕ) → list_all is_cursor_byte w ≡ true → runs_from run (w ++ bs) ≡ runs_from (run ++ w) bs
run_on run [] bs h = rw append-nil refl
run_on run (b ∷ w) bs h =
    let parts = and_parts (is_cursor_byte b) (list_all is_cursor_byte w) h in
    rw (cursor_byte-parts b parts.0, cursor_byte-alone b parts.0) (run_on (run ++ b ∷ []) w bs parts.1 ∙ ap (λ r. runs_from r bs) (append_assoc run (b ∷ []) w))

word_of-solid : (w : Text) → IsSolid w → word_of w ≡ w ∷ []
word_of-solid w s = rw (lt-ltb 0 (length w) s.long) refl

-- the first word, and the last one
word_first : (w : Text) (bs : List ℕ) → IsWord w → runs_from [] (w ++ 32 ∷ bs) ≡ w ∷ runs_from [] bs
word_first w bs (inl s) = run_on [] w (32 ∷ bs) s.bytes ∙ ap (λ ws. ws ++ runs_from [] bs) (word_of-solid w s)
word_first w bs (inr (inl is)) = rw is refl
word_first w bs (inr (inr is)) = rw is refl

word_last : (w : Text) → IsWord w → runs_from [] w ≡ w ∷ []
word_last w (inl s) = sym (ap (runs_from []) (append-nil w)) ∙ run_on [] w [] s.bytes ∙ word_of-solid w s
word_last w (inr (inl is)) = rw is refl
word_last w (inr (inr is)) = rw is refl

runs-line : (ws : List Text) → AreWords ws → runs_from [] (words_joined ws) ≡ ws
runs-line [] h = refl
runs-line (w ∷ []) h = word_last w h.0
runs-line (w ∷ v ∷ ws) h = word_first w (words_joined (v ∷ ws)) h.0 ∙ ap (λ l. w ∷ l) (runs-line (v ∷ ws) h.1)

-- no byte of it is a carriage return
abbrev stays : ℕ → Bool
stays b = not (b == 13)

cursor_byte-stays : (b : ℕ) → is_cursor_byte b ≡ true → stays b ≡ true
cursor_byte-stays b h = grind (arith, nat_tests)

cursor_bytes-stay : (w : Text) → list_all is_cursor_byte w ≡ true → list_all stays w ≡ true
cursor_bytes-stay [] h = refl
cursor_bytes-stay (b ∷ w) h =
    let parts = and_parts (is_cursor_byte b) (list_all is_cursor_byte w) h in
    let here : stays b ≡ true = cursor_byte-stays b parts.0 in
    rw here (cursor_bytes-stay w parts.1)

word-stays : (w : Text) → IsWord w → list_all stays w ≡ true
word-stays w (inl s) = cursor_bytes-stay w s.bytes
word-stays w (inr (inl is)) = rw is refl
word-stays w (inr (inr is)) = rw is refl

line-stays : (ws : List Text) → AreWords ws → list_all stays (words_joined ws) ≡ true
line-stays [] h = refl
line-stays (w ∷ []) h = word-stays w h.0
line-stays (w ∷ v ∷ ws) h = list_all-append stays w (32 ∷ words_joined (v ∷ ws)) ∙ rw (word-stays w h.0) (line-stays (v ∷ ws) h.1)

no_return : (line : List ℕ) (i : ℕ) → list_all stays line ≡ true → (slice_index line i == 13) ≡ false
no_return [] i h = refl
no_return (b ∷ line) zero h = let here = (and_parts (stays b) (list_all stays line) h).0 in grind (arith, nat_tests)
no_return (b ∷ line) (suc i) h = no_return line i (and_parts (stays b) (list_all stays line) h).1

-- whether the first word begins neither with a blank nor with `#`
abbrev pub begins : List Text → Bool
begins [] = true
begins ([] ∷ ws) = false
begins ((b ∷ w) ∷ ws) = not (is_blank b) && not (b == 35)

no_note : (b : ℕ) (bs : List ℕ) → not (is_blank b) && not (b == 35) ≡ true → is_note (b ∷ bs) ≡ false
no_note b bs h =
    let parts = and_parts (not (is_blank b)) (not (b == 35)) h in
    let blank : is_blank b ≡ false = not-true (is_blank b) parts.0 in
    rw blank (not-true (b == 35) parts.1)

line-no_note : (ws : List Text) → begins ws ≡ true → is_note (words_joined ws) ≡ false
line-no_note [] h = refl
line-no_note ([] ∷ ws) h = never h
line-no_note ((b ∷ w) ∷ []) h = no_note b w h
line-no_note ((b ∷ w) ∷ v ∷ ws) h = no_note b (w ++ 32 ∷ words_joined (v ∷ ws)) h

pub words-line : (ws : List Text) → AreWords ws → begins ws ≡ true → words (words_joined ws) ≡ ws
unfolding words
words-line ws h first =
    rw (no_return (words_joined ws) (length (words_joined ws) - 1) (line-stays ws h), line-no_note ws first) (sym (runs-byte_by_byte (words_joined ws)) ∙ runs-line ws h)
