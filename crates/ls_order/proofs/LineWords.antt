-- A line of a file of pairs, word by word.
use Rattle.std.proofs.Common.{ℕ, suc, ◌==◌, ◌&&◌, ◌||◌, ◌∙◌, ◌∷◌, ◌++◌, ◌≡◌, Bool, List}
use Rattle.std.proofs.Common.{None, Option}
use Rattle.std.proofs.Common.{Some, [], ap, arith, cond, false, inl, inr, length, nat_lt, not}
use Rattle.std.proofs.Common.{refl, sym, true, true≢false, filter, fold}
use Rattle.std.specs.List.{list_all, list_any, flat_map, slice_split}
use Rattle.std.proofs.lemmas.Bool.{cases_Bool}
use Rattle.std.proofs.lemmas.Bool.Decides.{nat_tests}
use Rattle.ls_lists.proofs.Places.{is_some-position}
use Rattle.ls_cutting.specs.Lines.{Text, parts_words, runs}
use Rattle.ls_cutting.specs.Lines.{spaced}
unfoldable use Rattle.ls_cutting.specs.Kinds.{is_of}
use Rattle.ls_cutting.proofs.Runs.{runs_from, runs-byte_by_byte, stands_alone, word_of}
use Rattle.ls_domain.specs.Domains.{is_name}
use Rattle.ls_domain.specs.Meanings.{is_named, item_of, number_of}
use Rattle.ls_domain.proofs.Numbers.{is_named-none, is_named-some}
use Rattle.ls_files.specs.PairFiles.{pair_named}
use Rattle.ls_files.specs.declared.pair_line.PairLine.TheVariants as line
use Rattle.ls_order.specs.declared.met.Met.TheVariants.{Nothing, Two, Bad}
use Rattle.ls_order.specs.Words.{line_met, line_worded, pair_met, with_word}

-- ---- words one by one

pub from_bad : (names ws : List Text) → fold (with_word names) Bad ws ≡ Bad
from_bad names [] = refl
from_bad names (w ∷ ws) = elim (cases_Bool (is_name w)) [
  | inl e ↦ rw e (from_bad names ws)
  | inr e ↦ rw e (from_bad names ws)
]

-- a third word makes a line bad
from_two : (names : List Text) (low high : Option ℕ) (w : Text) (ws : List Text)
    → fold (with_word names) (Two low high) (w ∷ ws) ≡ Bad
from_two names low high w ws = elim (cases_Bool (is_name w)) [
  | inl e ↦ rw e (from_bad names ws)
  | inr e ↦ rw e (from_bad names ws)
]

pub three-bad : (names : List Text) (u v w : Text) (ws : List Text)
    → fold (with_word names) Nothing (u ∷ v ∷ w ∷ ws) ≡ Bad
three-bad names u v w ws = elim (cases_Bool (is_name u)) [
  | inr e ↦ rw e (from_bad names (v ∷ w ∷ ws))
  | inl e ↦ rw e (elim (cases_Bool (is_name v)) [
    | inr f ↦ rw f (from_bad names (w ∷ ws))
    | inl f ↦ rw f (from_two names (number_of names u) (number_of names v) w ws)
  ])
]

-- two names
two-named : (names : List Text) (u v : Text) → pair_met (number_of names u) (number_of names v)
    ≡ cond (list_any (λ w. not (is_named names w)) (u ∷ v ∷ [])) line.Unknown
    (line.Pair (item_of names u) (item_of names v))
two-named names u v =
    elim
    (number_of names u)
    as (λ o. number_of names u ≡ o → pair_met (number_of names u) (number_of names v)
    ≡ cond (list_any (λ w. not (is_named names w)) (u ∷ v ∷ [])) line.Unknown
    (line.Pair (item_of names u) (item_of names v))) [
      | None ↦ λ e. rw (e, is_named-none names u e) refl
      | Some i ↦ λ e. rw (e, is_named-some names u i e)
          (elim
          (number_of names v)
          as (λ o. number_of names v ≡ o → pair_met (Some i) (number_of names v)
          ≡ cond (list_any (λ w. not (is_named names w)) (v ∷ [])) line.Unknown
          (line.Pair i (item_of names v))) [
            | None ↦ λ f. rw (f, is_named-none names v f) refl
            | Some j ↦ λ f. rw (f, is_named-some names v j f) refl
          ] refl)
    ] refl

two-words : (names : List Text) (u v : Text)
    → line_met (fold (with_word names) Nothing (u ∷ v ∷ [])) ≡ pair_named names (u ∷ v ∷ [])
two-words names u v = elim (cases_Bool (is_name u)) [
  | inr e ↦ rw (e, from_bad names (v ∷ [])) refl
  | inl e ↦ rw e (elim (cases_Bool (is_name v)) [
    | inr f ↦ rw f refl
    | inl f ↦ rw f (two-named names u v ∙ ap (λ b. cond b line.Unknown
        (line.Pair (item_of names u) (item_of names v)))
        (sym (is_some-position (λ w. not (is_named names w)) (u ∷ v ∷ []))))
  ])
]

not-none : (n : ℕ) → (suc n == 0) ≡ false
not-none n = grind arith

not-two : (n : ℕ) → (suc (suc (suc n)) == 2) ≡ false
not-two n = grind arith

three-worded : (names : List Text) (u v w : Text) (ws : List Text)
    → line_worded names (u ∷ v ∷ w ∷ ws) ≡ line.Bad
three-worded names u v w ws =
    rw (not-none (suc (suc (length ws)))) (rw (not-two (length ws)) refl)

pub words-worded : (names ws : List Text) → line_met (fold (with_word names) Nothing ws)
    ≡ line_worded names ws
words-worded names [] = refl
words-worded names (w ∷ []) =
    elim (cases_Bool (is_name w)) [ inl e ↦ rw e refl | inr e ↦ rw e refl ]
words-worded names (u ∷ v ∷ []) = two-words names u v
words-worded names (u ∷ v ∷ w ∷ ws) =
    ap line_met (three-bad names u v w ws) ∙ sym (three-worded names u v w ws)

-- ---- lines without a colon or a bar, and with one

unmarked : (bs : List ℕ) → list_any stands_alone bs ≡ false → flat_map spaced bs ≡ bs
unmarked [] h = refl
unmarked (b ∷ bs) h = elim (cases_Bool (stands_alone b)) [
  | inl e ↦ absurd (true≢false (sym (ap (λ t. t || list_any stands_alone bs) e) ∙ h))
  | inr e ↦ rw e (ap (λ l. b ∷ l)
      (unmarked bs (sym (ap (λ t. t || list_any stands_alone bs) e) ∙ h)))
]

pub runs-unmarked : (bs : List ℕ) → list_any stands_alone bs ≡ false
    → filter (λ w. nat_lt 0 (length w)) (slice_split parts_words bs) ≡ runs bs
runs-unmarked bs h =
    ap (λ l. filter (λ w. nat_lt 0 (length w)) (slice_split parts_words l)) (sym (unmarked bs h))

mark-no_name : (b : ℕ) → stands_alone b ≡ true → is_name (b ∷ []) ≡ false
unfolding is_of
mark-no_name b h = grind (arith, nat_tests)

all-append : (p : Text → Bool) (us vs : List Text) → list_all p vs ≡ false
    → list_all p (us ++ vs) ≡ false
all-append p [] vs h = h
all-append p (u ∷ us) vs h =
    elim
    (p u)
    as (λ b. (b && list_all p (us ++ vs)) ≡ false)
    [ true ↦ all-append p us vs h | false ↦ refl ]

marked : (run bs : List ℕ) → list_any stands_alone bs ≡ true
    → list_all is_name (runs_from run bs) ≡ false
marked run [] h = absurd (true≢false (sym h))
marked run (b ∷ bs) h = elim (cases_Bool (stands_alone b)) [
  | inl e ↦ rw (e, mark-parts b e)
      (all-append is_name (word_of run) ((b ∷ []) ∷ runs_from [] bs)
      (ap (λ t. t && list_all is_name (runs_from [] bs)) (mark-no_name b e)))
  | inr e ↦
      let later : list_any stands_alone bs ≡ true =
      sym (ap (λ t. t || list_any stands_alone bs) e) ∙ h in
      elim (cases_Bool (parts_words b)) [
        | inl f ↦ rw f (all-append is_name (word_of run) (runs_from [] bs) (marked [] bs later))
        | inr f ↦ rw (e, f) (marked (run ++ b ∷ []) bs later)
      ]
]
  where
    mark-parts : (b : ℕ) → stands_alone b ≡ true → parts_words b ≡ false
    mark-parts b h = grind (arith, nat_tests)

some-bad : (names ws : List Text) → list_all is_name ws ≡ false → line_worded names ws ≡ line.Bad
some-bad names [] h = absurd (true≢false h)
some-bad names (w ∷ ws) h =
    let more = not-none (length ws) in
    let bad : (length (w ∷ ws) == 2 && list_all is_name (w ∷ ws)) ≡ false =
    ap (λ b. length (w ∷ ws) == 2 && b) h ∙ none (length (w ∷ ws) == 2) in
    rw more (rw bad refl)
  where
    none : (b : Bool) → (b && false) ≡ false
    none true = refl
    none false = refl

pub marked-bad : (names : List Text) (bs : List ℕ) → list_any stands_alone bs ≡ true
    → line_worded names (runs bs) ≡ line.Bad
marked-bad names bs h =
    some-bad names (runs bs) (ap (list_all is_name) (sym (runs-byte_by_byte bs)) ∙ marked [] bs h)
