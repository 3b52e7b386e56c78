-- Words that fit the parts of a form are cut as they were given.
use Rattle.ls_lines.proofs.Vocabulary.{◌&&◌, ◌++◌, ◌+◌, ◌∙◌, ◌∷◌, ◌≡◌, Bool, Fixed, Keyword, Kind, List, Many, One, Part, Some, Text, ℕ, [], and_parts, ap, arith, cut, drop-append_seam, false, fits, flat_map, inl, inr, is_of, length, list_all, never, not, not-true, prefix_len, refl, same_text, spelling, subst, suc, sym, take-append_seam, true}
use Rattle.ls_lines.specs.declared.keyword.Keyword.TheVariants as word
use Rattle.ls_cutting.proofs.Solid.{kind-solid}
use Rattle.ls_cutting.proofs.Rewords.{IsWord, AreWords}
use Rattle.ls_lines.proofs.Parted.{ends, many_end}

-- whether the words can stand at the part, and the words of each list at each part
abbrev pub fits_at : Part → List Text → Bool
fits_at (Many k) ws = list_all (is_of k) ws
fits_at part [] = false
fits_at part (w ∷ []) = fits part w
fits_at part (w ∷ v ∷ ws) = false

abbrev pub all_fit : List Part → List (List Text) → Bool
all_fit [] [] = true
all_fit [] (ws ∷ given) = false
all_fit (part ∷ ps) [] = false
all_fit (part ∷ ps) (ws ∷ given) = fits_at part ws && all_fit ps given

abbrev pub flat : List (List Text) → List Text
flat given = flat_map (λ ws. ws) given

-- whether any number of words of the kind end in front of the words
abbrev stops : Kind → List Text → Bool
stops k [] = true
stops k (w ∷ ws) = not (is_of k w)

stops-parts : (k : Kind) (ps : List Part) (given : List (List Text)) → ends k ps ≡ true → all_fit ps given ≡ true → stops k (flat given) ≡ true
stops-parts k [] [] e h = refl
stops-parts k [] (ws ∷ given) e h = never h
stops-parts k (part ∷ ps) [] e h = never h
stops-parts k (Fixed v ∷ ps) ([] ∷ given) e h = never h
stops-parts k (Fixed v ∷ ps) ((w ∷ []) ∷ given) e h = subst (λ x. not (is_of k x) ≡ true) (same_text (spelling v) w (sym (and_parts (fits (Fixed v) w) (all_fit ps given) h).0)) e
stops-parts k (Fixed v ∷ ps) ((w ∷ u ∷ ws) ∷ given) e h = never h
stops-parts k (One j ∷ ps) (ws ∷ given) e h = never e
stops-parts k (Many j ∷ ps) (ws ∷ given) e h = never e

next : (n : ℕ) → 1 + n ≡ suc n
next n = omega arith

counted : (k : Kind) (ws more : List Text) → list_all (is_of k) ws ≡ true → stops k more ≡ true → prefix_len (is_of k) (ws ++ more) ≡ length ws
counted k [] [] h s = refl
counted k [] (w ∷ more) h s = rw (not-true (is_of k w) s) refl
counted k (w ∷ ws) more h s =
    let parts = and_parts (is_of k w) (list_all (is_of k) ws) h in
    rw parts.0 (ap (λ n. 1 + n) (counted k ws more parts.1 s) ∙ next (length ws))

pub recut : (ps : List Part) (given : List (List Text)) → many_end ps ≡ true → all_fit ps given ≡ true → cut ps (flat given) ≡ Some given
unfolding cut
recut [] [] p h = refl
recut [] (ws ∷ given) p h = never h
recut (part ∷ ps) [] p h = never h
recut (Many k ∷ ps) (ws ∷ given) p h =
    let parts = and_parts (list_all (is_of k) ws) (all_fit ps given) h in
    let all = counted k ws (flat given) parts.0 (stops-parts k ps given (and_parts (ends k ps) (many_end ps) p).0 parts.1) in
    rw (all, take-append_seam, drop-append_seam, recut ps given (and_parts (ends k ps) (many_end ps) p).1 parts.1) refl
recut (Fixed v ∷ ps) ([] ∷ given) p h = never h
recut (Fixed v ∷ ps) ((w ∷ u ∷ ws) ∷ given) p h = never h
recut (Fixed v ∷ ps) ((w ∷ []) ∷ given) p h = let parts = and_parts (fits (Fixed v) w) (all_fit ps given) h in rw (parts.0, recut ps given p parts.1) refl
recut (One k ∷ ps) ([] ∷ given) p h = never h
recut (One k ∷ ps) ((w ∷ u ∷ ws) ∷ given) p h = never h
recut (One k ∷ ps) ((w ∷ []) ∷ given) p h = let parts = and_parts (fits (One k) w) (all_fit ps given) h in rw (parts.0, recut ps given p parts.1) refl

-- they are words
keyword-word : (v : Keyword) → IsWord (spelling v)
unfolding spelling
keyword-word word.Colon = inr (inl refl)
keyword-word word.Bar = inr (inr refl)
keyword-word v = inl (record { long = omega arith; bytes = refl })

words-before : (k : Kind) (ws more : List Text) → list_all (is_of k) ws ≡ true → AreWords more → AreWords (ws ++ more)
words-before k [] more h m = m
words-before k (w ∷ ws) more h m = let parts = and_parts (is_of k w) (list_all (is_of k) ws) h in (inl (kind-solid k w parts.0), words-before k ws more parts.1 m)

pub words-fit : (ps : List Part) (given : List (List Text)) → all_fit ps given ≡ true → AreWords (flat given)
words-fit [] [] h = tt
words-fit [] (ws ∷ given) h = never h
words-fit (part ∷ ps) [] h = never h
words-fit (Many k ∷ ps) (ws ∷ given) h = let parts = and_parts (list_all (is_of k) ws) (all_fit ps given) h in words-before k ws (flat given) parts.0 (words-fit ps given parts.1)
words-fit (Fixed v ∷ ps) ([] ∷ given) h = never h
words-fit (Fixed v ∷ ps) ((w ∷ u ∷ ws) ∷ given) h = never h
words-fit (Fixed v ∷ ps) ((w ∷ []) ∷ given) h =
    let parts = and_parts (fits (Fixed v) w) (all_fit ps given) h in
    (subst IsWord (same_text (spelling v) w (sym parts.0)) (keyword-word v), words-fit ps given parts.1)
words-fit (One k ∷ ps) ([] ∷ given) h = never h
words-fit (One k ∷ ps) ((w ∷ u ∷ ws) ∷ given) h = never h
words-fit (One k ∷ ps) ((w ∷ []) ∷ given) h = let parts = and_parts (fits (One k) w) (all_fit ps given) h in (inl (kind-solid k w parts.0), words-fit ps given parts.1)
