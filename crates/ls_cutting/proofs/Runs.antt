-- The words of a line, found byte by byte.
use Rattle.ls_cutting.proofs.Vocabulary.{◌++◌, ◌+◌, ◌<◌, ◌==◌, ◌||◌, ◌∙◌, ◌∷◌, ◌≡◌, ◌≤◌, Bool, List, Some, Text, ℕ, [], ap, append-nil, append_assoc, arith, cond, drop, drop_more, false, filter, get_or, is_blank, is_note, length, length-append, nat_eq, nat_lt, nat_tests, not, option_eq, parts_words, refl, runs, spaced, suc, sym, true, without_return, words}
use Rattle.std.specs.List.{slice_split, onto_first, flat_map, prefix_len, find, slice_range}
use Rattle.std.proofs.lemmas.List.Edits.{between_more, between_none, length-between}

-- the run as a word, unless it has no byte
abbrev pub word_of : List ℕ → List Text
word_of run = cond (nat_lt 0 (length run)) (run ∷ []) []

abbrev pub stands_alone : ℕ → Bool
stands_alone b = b == 58 || b == 124

-- the words, where a run goes on into the bytes
abbrev pub runs_from : List ℕ → List ℕ → List Text
runs_from run [] = word_of run
runs_from run (b ∷ bs) =
    cond (parts_words b) (word_of run ++ runs_from [] bs) (cond (stands_alone b) (word_of run ++ (b ∷ []) ∷ runs_from [] bs) (runs_from (run ++ b ∷ []) bs))

-- the parts, the first of which begins with the run
abbrev onto_run : List ℕ → List Text → List Text
onto_run run [] = run ∷ []
onto_run run (part ∷ parts) = (run ++ part) ∷ parts

abbrev kept : List Text → List Text
kept ws = filter (λ w. nat_lt 0 (length w)) ws

abbrev parts_of : List ℕ → List Text
parts_of bs = slice_split parts_words (flat_map spaced bs)

kept-cons : (run : List ℕ) (ws : List Text) → kept (run ∷ ws) ≡ word_of run ++ kept ws
kept-cons run ws =
    elim (nat_lt 0 (length run)) as (λ t. cond t (run ∷ kept ws) (kept ws) ≡ cond t (run ∷ []) [] ++ kept ws) [ true ↦ refl | false ↦ refl ]

kept-onto_nil : (ws : List Text) → kept (onto_run [] ws) ≡ kept ws
kept-onto_nil [] = refl
kept-onto_nil (w ∷ ws) = refl

onto_run-onto_first : (run : List ℕ) (b : ℕ) (parts : List Text) → onto_run run (onto_first b parts) ≡ onto_run (run ++ b ∷ []) parts
onto_run-onto_first run b [] = refl
onto_run-onto_first run b (part ∷ parts) = ap (λ w. w ∷ parts) (sym (append_assoc run (b ∷ []) part))

apart : (b : ℕ) → stands_alone b ≡ true → parts_words b ≡ false
apart b e = grind (arith, nat_tests)

-- what `spaced` puts round a byte
parts_of-cons : (b : ℕ) (bs : List ℕ) →
    parts_of (b ∷ bs) ≡ cond (parts_words b) ([] ∷ parts_of bs) (cond (stands_alone b) ([] ∷ (b ∷ []) ∷ parts_of bs) (onto_first b (parts_of bs)))
parts_of-cons b bs =
    elim (stands_alone b) as (λ t. stands_alone b ≡ t → slice_split parts_words (cond t (32 ∷ b ∷ 32 ∷ []) (b ∷ []) ++ flat_map spaced bs) ≡ cond (parts_words b) ([] ∷ parts_of bs) (cond t ([] ∷ (b ∷ []) ∷ parts_of bs) (onto_first b (parts_of bs)))) [
      | true ↦ λ e. rw (apart b e) refl
      | false ↦ λ e. refl
    ] refl

kept-onto_next : (p alone : Bool) (run : List ℕ) (b : ℕ) (parts first more : List Text) → kept parts ≡ first → kept (onto_run (run ++ b ∷ []) parts) ≡ more →
    kept (onto_run run (cond p ([] ∷ parts) (cond alone ([] ∷ (b ∷ []) ∷ parts) (onto_first b parts)))) ≡ cond p (word_of run ++ first) (cond alone (word_of run ++ (b ∷ []) ∷ first) more)
kept-onto_next true alone run b parts first more h k = rw append-nil (kept-cons run parts ∙ ap (λ ws. word_of run ++ ws) h)
kept-onto_next false true run b parts first more h k = rw append-nil (kept-cons run ((b ∷ []) ∷ parts) ∙ ap (λ ws. word_of run ++ (b ∷ []) ∷ ws) h)
kept-onto_next false false run b parts first more h k = ap kept (onto_run-onto_first run b parts) ∙ k

kept-onto_run : (run bs : List ℕ) → kept (onto_run run (parts_of bs)) ≡ runs_from run bs
kept-onto_run run [] = ap word_of (append-nil run)
kept-onto_run run (b ∷ bs) =
    ap (λ parts. kept (onto_run run parts)) (parts_of-cons b bs)
    ∙ kept-onto_next (parts_words b) (stands_alone b) run b (parts_of bs) _ _ (sym (kept-onto_nil (parts_of bs)) ∙ kept-onto_run [] bs) (kept-onto_run (run ++ b ∷ []) bs)

pub runs-byte_by_byte : (line : List ℕ) → runs_from [] line ≡ runs line
runs-byte_by_byte line = sym (kept-onto_run [] line) ∙ kept-onto_nil (parts_of line)

-- one byte more of a line whose run began at `start`
runs_from-more : (line : List ℕ) (start i : ℕ) → start ≤ i → i < length line →
    runs_from (slice_range line start i) (drop i line)
    ≡ cond (parts_words (get_or line i 0)) (word_of (slice_range line start i) ++ runs_from [] (drop (i + 1) line)) (cond (stands_alone (get_or line i 0)) (word_of (slice_range line start i) ++ (get_or line i 0 ∷ []) ∷ runs_from [] (drop (i + 1) line)) (runs_from (slice_range line start (i + 1)) (drop (i + 1) line)))
runs_from-more line start i le lt = rw (drop_more line i 0 lt, between_more line start i 0 le lt) refl

-- no more words than bytes
length-word_of : (run : List ℕ) → length (word_of run) ≤ length run
length-word_of run = grind (arith, nat_tests)

pub few_more : (line : List ℕ) (start i : ℕ) (seen : List Text) → start ≤ i → i ≤ length line → length seen ≤ start → length (seen ++ word_of (slice_range line start i)) ≤ i
few_more line start i seen le lt h = omega (arith, length-append seen (word_of (slice_range line start i)), length-word_of (slice_range line start i), length-between line start i lt)

-- the words so far, where the next byte ends the run, is a word by itself, or goes on with the run
pub ends_run : (line : List ℕ) (start i : ℕ) (seen all : List Text) → start ≤ i → i < length line → parts_words (get_or line i 0) ≡ true →
    seen ++ runs_from (slice_range line start i) (drop i line) ≡ all →
    (seen ++ word_of (slice_range line start i)) ++ runs_from (slice_range line (i + 1) (i + 1)) (drop (i + 1) line) ≡ all
ends_run line start i seen all le lt p h =
    rw (between_none line (i + 1), append_assoc) (rw (← h, runs_from-more line start i le lt, p) refl)

pub is_alone : (line : List ℕ) (start i : ℕ) (seen all : List Text) → start ≤ i → i < length line → parts_words (get_or line i 0) ≡ false → stands_alone (get_or line i 0) ≡ true →
    seen ++ runs_from (slice_range line start i) (drop i line) ≡ all →
    ((seen ++ word_of (slice_range line start i)) ++ word_of (slice_range line i (i + 1))) ++ runs_from (slice_range line (i + 1) (i + 1)) (drop (i + 1) line) ≡ all
is_alone line start i seen all le lt p q h =
    let here = between_more line i i 0 (omega arith) lt in
    rw (between_none line (i + 1), here, between_none line i) (simp append_assoc (rw (← h, runs_from-more line start i le lt, p, q) refl))

pub goes_on : (line : List ℕ) (start i : ℕ) (seen all : List Text) → start ≤ i → i < length line → parts_words (get_or line i 0) ≡ false → stands_alone (get_or line i 0) ≡ false →
    seen ++ runs_from (slice_range line start i) (drop i line) ≡ all →
    seen ++ runs_from (slice_range line start (i + 1)) (drop (i + 1) line) ≡ all
goes_on line start i seen all le lt p q h = sym (ap (λ ws. seen ++ ws) (rw (runs_from-more line start i le lt, p, q) refl)) ∙ h

-- a note by its first byte that is no blank
pub is_note-by_first : (line : List ℕ) → is_note line ≡ option_eq nat_eq (find (λ b. not (is_blank b)) line) (Some 35)
is_note-by_first [] = refl
is_note-by_first (b ∷ line) =
    elim (is_blank b) as (λ t. is_blank b ≡ t → is_note (b ∷ line) ≡ option_eq nat_eq (find (λ c. not (is_blank c)) (b ∷ line)) (Some 35)) [
      | true ↦ λ e. let next : 1 + prefix_len is_blank line ≡ suc (prefix_len is_blank line) = omega arith in rw (e, next) (is_note-by_first line)
      | false ↦ λ e. rw e refl
    ] refl

-- a note has no words, and those of another line are its runs
pub words-note : (line : List ℕ) → is_note (without_return line) ≡ true → words line ≡ []
unfolding words
words-note line h = rw h refl

pub words-runs : (line : List ℕ) → is_note (without_return line) ≡ false → words line ≡ runs (without_return line)
unfolding words
words-runs line h = rw h refl
