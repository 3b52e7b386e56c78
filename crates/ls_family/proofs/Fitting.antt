-- The sets of a file are sets of the domain's items.
use Rattle.ls_family.proofs.Vocabulary.{◌+◌, ◌<◌, ◌∙◌, ◌∷◌, ◌≡◌, Bad, Bool, Err, FamilyFault, Found, IsWithin, IsWithin-from, Items, List, None, Ok, Passed, Repeat, Result, Set, SetLine, Some, Text, TooMany, Unknown, ℕ, [], and_from, and_parts, ap, body_read, cases_Bool, comes_before, empty-within, false, first_unnamed, found_from, full, inl, inr, inserted, is_among, is_name, is_named, is_passed, is_some, is_some-position, is_within, is_within-from, item_of, item_of-some, items_of, keys_of, length, line_read, lines, list_all, list_any, most_members, nat_le, not, number_of, refl, row_found, set_named, sets_of, subst, sym, true, true≢false, with-within, with_line, with_set, within_braces, without_return, words_within}
use Rattle.std.specs.Str.{bytes_eq}
use Rattle.std.proofs.lemmas.List.Quantifiers.{position-Some}
use Rattle.ls_set.proofs.Members.{among-cases}
use Rattle.ls_lists.proofs.Options.{same_Ok, ok-err}

-- whether the set has items below n alone
abbrev pub fits : ℕ → Items → Bool
fits n s = is_within s (full n)

-- ---- one line

item-below : (names : List Text) (w : Text) → is_named names w ≡ true → item_of names w < length names
item-below names w named =
    elim (number_of names w) as (λ o. number_of names w ≡ o → item_of names w < length names) [
      | None ↦ λ e. absurd (true≢false (sym named ∙ sym (is_some-position (bytes_eq w) names) ∙ ap is_some e))
      | Some i ↦ λ e. subst (λ j. j < length names) (sym (item_of-some names w i e)) (position-Some (bytes_eq w) names i [] e).0
    ] refl

named-within : (names ws : List Text) → list_any (λ w. not (is_named names w)) ws ≡ false → IsWithin (items_of names ws) (full (length names))
named-within names [] h = empty-within (full (length names))
named-within names (w ∷ ws) h =
    elim (cases_Bool (is_named names w)) [
      | inl e ↦
          let rest : list_any (λ w. not (is_named names w)) ws ≡ false = rw e at h in
          with-within (items_of names ws) (item_of names w) (length names) (named-within names ws rest) (item-below names w e)
      | inr e ↦ absurd (let z : true ≡ false = rw e at h in true≢false z)
    ]

-- what a line may be: where it is a set, one of items below n
abbrev pub Fits : ℕ → SetLine → Type 0
Fits n Passed = Unit {0}
Fits n Bad = Unit {0}
Fits n Unknown = Unit {0}
Fits n (Set s) = fits n s ≡ true

named-fits : (names ws : List Text) → Fits (length names) (set_named names ws)
named-fits names ws =
    elim (cases_Bool (list_all is_name ws)) [
      | inr bad ↦ rw bad tt
      | inl good ↦ elim (cases_Bool (is_some (first_unnamed names ws))) [
        | inl some ↦ rw (good, some) tt
        | inr none ↦ rw (good, none) (is_within-from _ _ (named-within names ws (sym (is_some-position (λ w. not (is_named names w)) ws) ∙ none)))
      ]
    ]

body-fits : (names : List Text) (body : List ℕ) → Fits (length names) (body_read names body)
body-fits names body =
    elim (cases_Bool (is_passed body)) [
      | inl passed ↦ rw passed tt
      | inr read ↦ elim (within_braces body) as (λ o. within_braces body ≡ o → Fits (length names) (body_read names body)) [
        | None ↦ λ e. rw (read, e) tt
        | Some part ↦ λ e. rw (read, e) (named-fits names (words_within part))
      ] refl
    ]

pub line-fits : (names : List Text) (line : List ℕ) → Fits (length names) (line_read names line)
unfolding line_read
line-fits names line = body-fits names (without_return line)

-- ---- the sets so far

abbrev pub AllFit : ℕ → Found → Type 0
AllFit n found = list_all (fits n) (keys_of found) ≡ true

placed-fit : (n : ℕ) (found : Found) (s : Items) (row : ℕ) → AllFit n found → fits n s ≡ true → AllFit n (inserted found s row)
placed-fit n [] s row all one = rw one refl
placed-fit n (e ∷ found) s row all one =
    elim (cases_Bool (comes_before s e.0)) [
      | inl first ↦ rw (first, one) all
      | inr later ↦
          let parts = and_parts (fits n e.0) (list_all (fits n) (keys_of found)) all in
          rw later (and_from _ _ parts.0 (placed-fit n found s row parts.1 one))
    ]

set-fits : (n : ℕ) (found more : Found) (row : ℕ) (s : Items) → AllFit n found → fits n s ≡ true → with_set found row s ≡ Ok more → AllFit n more
set-fits n found more row s all one e =
    elim (row_found found s) as (λ o. row_found found s ≡ o → AllFit n more) [
      | Some first ↦ λ f. let bad : with_set found row s ≡ Err (Repeat row first) = rw f refl in absurd (ok-err (sym e ∙ bad))
      | None ↦ λ f. elim (cases_Bool (nat_le most_members (length found))) [
        | inl many ↦ let bad : with_set found row s ≡ Err (TooMany row) = rw (f, many) refl in absurd (ok-err (sym e ∙ bad))
        | inr room ↦ let good : with_set found row s ≡ Ok (inserted found s row) = rw (f, room) refl in subst (AllFit n) (same_Ok (sym good ∙ e)) (placed-fit n found s row all one)
      ]
    ] refl

line-keeps : (n : ℕ) (found more : Found) (row : ℕ) (l : SetLine) → AllFit n found → Fits n l → with_line found row l ≡ Ok more → AllFit n more
line-keeps n found more row Passed all one e = subst (AllFit n) (same_Ok e) all
line-keeps n found more row Bad all one e = absurd (ok-err (sym e))
line-keeps n found more row Unknown all one e = absurd (ok-err (sym e))
line-keeps n found more row (Set s) all one e = set-fits n found more row s all one e

found-fit : (names : List Text) (found : Found) (row : ℕ) (ls : List (List ℕ)) (more : Found) → AllFit (length names) found → found_from names found row ls ≡ Ok more → AllFit (length names) more
unfolding found_from
found-fit names found row [] more all e = subst (AllFit (length names)) (same_Ok e) all
found-fit names found row (line ∷ rest) more all e =
    elim (with_line found row (line_read names line)) as (λ r. with_line found row (line_read names line) ≡ r → AllFit (length names) more) [
      | Ok next ↦ λ f. found-fit names next (row + 1) rest more (line-keeps (length names) found next row (line_read names line) all (line-fits names line) f) (rw f at e)
      | Err fault ↦ λ f. let bad : ◌≡◌ {A = Result Found FamilyFault} (Err fault) (Ok more) = rw f at e in absurd (ok-err (sym bad))
    ] refl

pub sets-fit : (names : List Text) (text : List ℕ) (sets : List Items) → sets_of names text ≡ Ok sets → list_all (fits (length names)) sets ≡ true
unfolding sets_of
sets-fit names text sets e =
    elim (found_from names [] 1 (lines text)) as (λ r. found_from names [] 1 (lines text) ≡ r → list_all (fits (length names)) sets ≡ true) [
      | Ok found ↦ λ f.
          let same : keys_of found ≡ sets = same_Ok (rw f at e) in
          subst (λ ss. list_all (fits (length names)) ss ≡ true) same (found-fit names [] 1 (lines text) found refl f)
      | Err fault ↦ λ f. let bad : ◌≡◌ {A = Result (List Items) FamilyFault} (Err fault) (Ok sets) = rw f at e in absurd (ok-err (sym bad))
    ] refl

-- ---- one of the sets

pub each-fits : (n : ℕ) (sets : List Items) (s : Items) → list_all (fits n) sets ≡ true → is_among sets s ≡ true → IsWithin s (full n)
each-fits n [] s all h = absurd (true≢false (sym h))
each-fits n (t ∷ sets) s all h =
    let parts = and_parts (fits n t) (list_all (fits n) sets) all in
    elim (among-cases s t sets h) [
      | inl e ↦ subst (λ u. IsWithin u (full n)) (sym e) (IsWithin-from t (full n) parts.0)
      | inr a ↦ each-fits n sets s parts.1 a
    ]
