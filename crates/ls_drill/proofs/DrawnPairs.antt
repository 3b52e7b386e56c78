-- The related pairs are drawn row by row.
use Rattle.ls_drill.proofs.Vocabulary.{◌%◌, ◌++◌, ◌+◌, ◌-◌, ◌<◌, ◌∙◌, ◌∷◌, ◌≡◌, ◌≢◌, ◌≤◌, Bool, Decides-eqb, Lcg, List, ℕ, [], add-one, after_words, ap, append-nil, append_assoc, ap₂, arith, cond, drawn, eqb, false, false_from_ne_true, filter, generator_of, item_pairs, length, map, numbers_from, pairs, pcg32, refl, related, row, suc, sym, true, drawn_words, zip}

drawn_step : (b : Bool) (p : ℕ × ℕ) (w : ℕ) (ds : List ((ℕ × ℕ) × ℕ)) (rest : List (ℕ × ℕ)) → map (λ (d : (ℕ × ℕ) × ℕ). d.0) ds ≡ rest
    → map (λ (d : (ℕ × ℕ) × ℕ). d.0) (cond b ((p, w) ∷ ds) ds) ≡ cond b (p ∷ rest) rest
drawn_step true p w ds rest e = ap (λ l. p ∷ l) e
drawn_step false p w ds rest e = e

zipped : (ps : List (ℕ × ℕ)) (g : Lcg) → map (λ (d : (ℕ × ℕ) × ℕ). d.0) (filter (λ d. eqb (d.1 % 4) 0) (zip ps (drawn_words (length ps) g))) ≡ drawn g ps
unfolding drawn
zipped [] g = refl
zipped (p ∷ ps) g = drawn_step (eqb ((pcg32 g).0 % 4) 0) p (pcg32 g).0 (filter (λ d. eqb (d.1 % 4) 0) (zip ps (drawn_words (length ps) (pcg32 g).1))) (drawn (pcg32 g).1 ps) (zipped ps (pcg32 g).1)

pub related-drawn : (n number : ℕ) → related n number ≡ drawn (generator_of number) (item_pairs n)
unfolding related
related-drawn n number = zipped (item_pairs n) (generator_of number)

cond-append : (b : Bool) (p : ℕ × ℕ) (xs ys zs : List (ℕ × ℕ)) → xs ≡ ys ++ zs → cond b (p ∷ xs) xs ≡ cond b (p ∷ ys) ys ++ zs
cond-append true p xs ys zs e = ap (λ l. p ∷ l) e
cond-append false p xs ys zs e = e

pub drawn-append : (ps qs : List (ℕ × ℕ)) (g : Lcg) → drawn g (ps ++ qs) ≡ drawn g ps ++ drawn (after_words ps g) qs
unfolding drawn after_words
drawn-append [] qs g = refl
drawn-append (p ∷ ps) qs g = cond-append (eqb ((pcg32 g).0 % 4) 0) p (drawn (pcg32 g).1 (ps ++ qs)) (drawn (pcg32 g).1 ps) (drawn (after_words ps (pcg32 g).1) qs) (drawn-append ps qs (pcg32 g).1)

-- the pairs of i and the numbers from j on below n
abbrev pub row_from : ℕ → ℕ → ℕ → List (ℕ × ℕ)
row_from n i j = map (λ j. (i, j)) (numbers_from j (n - j))

row_from-more : (n i j : ℕ) → j < n → row_from n i j ≡ (i, j) ∷ row_from n i (j + 1)
row_from-more n i j lt =
    let e : n - j ≡ suc (n - (j + 1)) = omega arith in
    rw (e, add-one j) refl

pub row_from-none : (n i j : ℕ) → n ≤ j → row_from n i j ≡ []
row_from-none n i j le = let e : n - j ≡ 0 = omega arith in rw e refl

-- ---- one word more

drawn-next : (n i j : ℕ) (g : Lcg) → j < n → drawn g (row_from n i j) ≡ cond (eqb ((pcg32 g).0 % 4) 0) ((i, j) ∷ drawn (pcg32 g).1 (row_from n i (j + 1))) (drawn (pcg32 g).1 (row_from n i (j + 1)))
unfolding drawn
drawn-next n i j g lt = ap (λ (ps : List (ℕ × ℕ)). drawn g ps) (row_from-more n i j lt)

-- the same, told of the word and of the generator after it
drawn-moved : (n i j w : ℕ) (g h : Lcg) → j < n → (w, h) ≡ pcg32 g → cond (eqb (w % 4) 0) ((i, j) ∷ drawn h (row_from n i (j + 1))) (drawn h (row_from n i (j + 1))) ≡ drawn g (row_from n i j)
drawn-moved n i j w g h lt step =
    let rest = row_from n i (j + 1) in
    ap (λ (x : ℕ × Lcg). cond (eqb (x.0 % 4) 0) ((i, j) ∷ drawn x.1 rest) (drawn x.1 rest)) step ∙ sym (drawn-next n i j g lt)

pub next-yes : (n i j w : ℕ) (g h : Lcg) (done all : List (ℕ × ℕ)) → j < n → (w, h) ≡ pcg32 g → w % 4 ≡ 0
    → done ++ drawn g (row_from n i j) ≡ all → (done ++ (i, j) ∷ []) ++ drawn h (row_from n i (j + 1)) ≡ all
next-yes n i j w g h done all lt step e inv =
    let rest = drawn h (row_from n i (j + 1)) in
    let yes' : (i, j) ∷ rest ≡ drawn g (row_from n i j) = sym (ap (λ v. cond (eqb v 0) ((i, j) ∷ rest) rest) e) ∙ drawn-moved n i j w g h lt step in
    append_assoc done ((i, j) ∷ []) rest ∙ ap (λ l. done ++ l) yes' ∙ inv

pub next-no : (n i j w : ℕ) (g h : Lcg) (done all : List (ℕ × ℕ)) → j < n → (w, h) ≡ pcg32 g → w % 4 ≢ 0
    → done ++ drawn g (row_from n i j) ≡ all → done ++ drawn h (row_from n i (j + 1)) ≡ all
next-no n i j w g h done all lt step e inv =
    let rest = drawn h (row_from n i (j + 1)) in
    let other : eqb (w % 4) 0 ≡ false = false_from_ne_true (eqb (w % 4) 0) (λ t. e ((Decides-eqb (w % 4) 0).0 t)) in
    let no' : rest ≡ drawn g (row_from n i j) = sym (ap (λ b. cond b ((i, j) ∷ rest) rest) other) ∙ drawn-moved n i j w g h lt step in
    ap (λ l. done ++ l) no' ∙ inv

pub next-generator : (n i j w : ℕ) (g h last : Lcg) → j < n → (w, h) ≡ pcg32 g → after_words (row_from n i j) g ≡ last → after_words (row_from n i (j + 1)) h ≡ last
unfolding after_words
next-generator n i j w g h last lt step inv =
    ap (λ (x : ℕ × Lcg). after_words (row_from n i (j + 1)) x.1) step ∙ sym (ap (λ (ps : List (ℕ × ℕ)). after_words ps g) (row_from-more n i j lt)) ∙ inv

pub no-words : (n i j : ℕ) (g : Lcg) → n ≤ j → after_words (row_from n i j) g ≡ g
unfolding after_words
no-words n i j g le = ap (λ (ps : List (ℕ × ℕ)). after_words ps g) (row_from-none n i j le)

pub no-pairs : (n i j : ℕ) (g : Lcg) → n ≤ j → drawn g (row_from n i j) ≡ []
unfolding drawn
no-pairs n i j g le = ap (λ (ps : List (ℕ × ℕ)). drawn g ps) (row_from-none n i j le)

-- ---- one row more

pairs-row : (n i : ℕ) → i < n → pairs (numbers_from i (n - i)) ≡ row n i ++ pairs (numbers_from (i + 1) (n - (i + 1)))
pairs-row n i lt =
    let e : n - i ≡ suc (n - (i + 1)) = omega arith in
    rw (e, add-one i) refl

pub next-row : (n i : ℕ) (g h : Lcg) (old done all : List (ℕ × ℕ)) → i < n → done ≡ old ++ drawn g (row n i) → h ≡ after_words (row n i) g
    → old ++ drawn g (pairs (numbers_from i (n - i))) ≡ all → done ++ drawn h (pairs (numbers_from (i + 1) (n - (i + 1)))) ≡ all
next-row n i g h old done all lt e gen inv =
    let later = pairs (numbers_from (i + 1) (n - (i + 1))) in
    ap₂ (λ (l : List (ℕ × ℕ)) (k : Lcg). l ++ drawn k later) e gen
    ∙ append_assoc old (drawn g (row n i)) (drawn (after_words (row n i) g) later)
    ∙ ap (λ l. old ++ l) (sym (drawn-append (row n i) later g) ∙ ap (λ (ps : List (ℕ × ℕ)). drawn g ps) (sym (pairs-row n i lt)))
    ∙ inv

pub first-row : (n number : ℕ) → drawn (generator_of number) (pairs (numbers_from 0 (n - 0))) ≡ related n number
first-row n number = let e : n - 0 ≡ n = omega arith in ap (λ m. drawn (generator_of number) (pairs (numbers_from 0 m))) e ∙ sym (related-drawn n number)

pub last-row : (n : ℕ) (g : Lcg) (done all : List (ℕ × ℕ)) → done ++ drawn g (pairs (numbers_from n (n - n))) ≡ all → done ≡ all
unfolding drawn
last-row n g done all inv =
    let e : n - n ≡ 0 = omega arith in
    sym (append-nil done) ∙ ap (λ m. done ++ drawn g (pairs (numbers_from n m))) (sym e) ∙ inv
