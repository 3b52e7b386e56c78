-- The reading of a file, line by line.
use Rattle.ls_family.proofs.Vocabulary.{◌+◌, ◌<◌, ◌∙◌, ◌∷◌, ◌≡◌, ◌≤◌, BadLine, Bor, Err, FamilyFault, Found, IsFamilyFault, List, Memory, None, Ok, Option, Repeat, Result, SetLine, Some, Text, TooMany, UnknownItem, ℕ, [], ap, arith, found_from, keys_of, length, line_read, lines, refl, sets_of, suc, sym, with_line}
use Rattle.std.specs.Option.{MatchOption}

pub found_from-nil : (names : List Text) (found : Found) (row : ℕ) → found_from names found row [] ≡ Ok found
unfolding found_from
found_from-nil names found row = refl

pub found_from-next : (names : List Text) (found more : Found) (row : ℕ) (line : List ℕ) (rest : List (List ℕ)) (l : SetLine) → l ≡ line_read names line → with_line found row l ≡ Ok more
    → found_from names found row (line ∷ rest) ≡ found_from names more (row + 1) rest
unfolding found_from
found_from-next names found more row line rest l is e = rw (← is, e) refl

found_from-fault : (names : List Text) (found : Found) (row : ℕ) (line : List ℕ) (rest : List (List ℕ)) (fault : FamilyFault) → with_line found row (line_read names line) ≡ Err fault → found_from names found row (line ∷ rest) ≡ Err fault
unfolding found_from
found_from-fault names found row line rest fault e = rw e refl

-- a fault of the next step is that of the reading
pub fault_told : {X Y : Type 0} (reading : Result X FamilyFault) (step : Result Y FamilyFault) (e : FamilyFault) → ((fault : FamilyFault) → step ≡ Err fault → reading ≡ Err fault) → IsFamilyFault step e → IsFamilyFault reading e
fault_told reading step (BadLine row) told is = told _ is
fault_told reading step (UnknownItem row) told is = told _ is
fault_told reading step (Repeat row first) told is = told _ is
fault_told reading step (TooMany row) told is = told _ is
fault_told reading step (Memory e) told is = tt

pub line-fault : (names : List Text) (found : Found) (row : ℕ) (line : List ℕ) (rest : List (List ℕ)) (reading : Result Found FamilyFault) (l : SetLine) (e : FamilyFault)
    → reading ≡ found_from names found row (line ∷ rest) → l ≡ line_read names line → IsFamilyFault (with_line found row l) e → IsFamilyFault reading e
line-fault names found row line rest reading l e so_far is =
    fault_told reading (with_line found row l) e (λ fault f. so_far ∙ found_from-fault names found row line rest fault (ap (with_line found row) (sym is) ∙ f))

pub sets_of-ok : (names : List Text) (text : List ℕ) (found : Found) → found_from names [] 1 (lines text) ≡ Ok found → sets_of names text ≡ Ok (keys_of found)
unfolding sets_of
sets_of-ok names text found e = rw e refl

pub sets_of-fault : (names : List Text) (text : List ℕ) (e : FamilyFault) → IsFamilyFault (found_from names [] 1 (lines text)) e → IsFamilyFault (sets_of names text) e
unfolding sets_of
sets_of-fault names text e = fault_told (sets_of names text) (found_from names [] 1 (lines text)) e (λ fault f. rw f refl)

-- ---- a loop over the lines: what is left to read, if anything is

-- the reading of the rest
abbrev pub read_on : List Text → Found → ℕ → Option (Bor (List ℕ)) → Result Found FamilyFault
read_on names found row None = Ok found
read_on names found row (Some rest) = found_from names found row (lines rest.now)

-- a number above the bytes that are left
abbrev pub left : Option (Bor (List ℕ)) → ℕ
left None = 0
left (Some rest) = suc (length rest.now)

-- the first line of a text and what follows it
abbrev pub IsCut : List ℕ → List ℕ → Option (Bor (List ℕ)) → Type 0
IsCut text line more = MatchOption more (lines text ≡ line ∷ []) (λ m. (lines text ≡ line ∷ lines m.now) × (length m.now < length text))

pub left-less : (text line : List ℕ) (more : Option (Bor (List ℕ))) → IsCut text line more → left more ≤ length text
left-less text line None h = omega arith
left-less text line (Some m) h = let l = h.1 in omega (arith, l)

pub line-good : (names : List Text) (found next : Found) (row : ℕ) (text line : List ℕ) (more : Option (Bor (List ℕ))) (l : SetLine) → IsCut text line more → l ≡ line_read names line → with_line found row l ≡ Ok next
    → found_from names found row (lines text) ≡ read_on names next (row + 1) more
line-good names found next row text line None l h is good = ap (found_from names found row) h ∙ found_from-next names found next row line [] l is good ∙ found_from-nil names next (row + 1)
line-good names found next row text line (Some m) l h is good = ap (found_from names found row) h.0 ∙ found_from-next names found next row line (lines m.now) l is good

pub line-bad : (names : List Text) (found : Found) (row : ℕ) (text line : List ℕ) (more : Option (Bor (List ℕ))) (reading : Result Found FamilyFault) (l : SetLine) (e : FamilyFault) → IsCut text line more
    → reading ≡ found_from names found row (lines text) → l ≡ line_read names line → IsFamilyFault (with_line found row l) e → IsFamilyFault reading e
line-bad names found row text line None reading l e h so_far is bad = line-fault names found row line [] reading l e (so_far ∙ ap (found_from names found row) h) is bad
line-bad names found row text line (Some m) reading l e h so_far is bad = line-fault names found row line (lines m.now) reading l e (so_far ∙ ap (found_from names found row) h.0) is bad
