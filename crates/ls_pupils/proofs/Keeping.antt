-- Pupils stay pupils of n items, and what their rows come to.
use Rattle.ls_pupils.proofs.Vocabulary.{case_name, ◌++◌, ◌+◌, ◌<◌, ◌∙◌, ◌∷◌, ◌≡◌, ◌≤◌, Agreed, All, All-append, All-drop, All-push, All-set, All-take, ArePupils, Bool, Done, IsCase, IsOwnCase, List, None, Pupil, PupilCase, Refused, ReplyFault, Some, ℕ, [], ap, arith, asked, asked_of, close_row, drop, false, filter, get-map, has_name, have_own_names, is_called, length, length-append, list_any, map-remove, most_pupils, not, pupil_of_case, pupil_with, pupils_of, refl, remove, replied, reply_fault, reply_row, set, slice_get, slice_get_within, subst, suc, sym, take, true, unwrap_or, unwrap_or-slice_get, with_pupil, zero}
use Rattle.std.proofs.lemmas.List.{map-set, length-set}
use Rattle.ls_meaning.specs.declared.response.Refusal.TheVariants as refusal
use Rattle.ls_pupils.proofs.Own.{replaced-set, left_out-remove, own-set, own-remove, own-push, own-map, own_name}
use Rattle.ls_pupils.proofs.Named.{IsAt}
use Rattle.ls_pupils.proofs.Rows.{asked-same, row-taken, row-refused}

abbrev pupil_name : Pupil → List ℕ
pupil_name p = p.name

own_pupils : (cases : List PupilCase) → have_own_names case_name cases ≡ true → have_own_names pupil_name (pupils_of cases) ≡ true
own_pupils cases own = sym (own-map pupil_name pupil_of_case cases) ∙ own

pub own-at : (cases : List PupilCase) (i : ℕ) (c : PupilCase) → All IsOwnCase cases → slice_get cases i ≡ Some c → IsOwnCase c
own-at cases i c h at = subst IsOwnCase (sym (unwrap_or-slice_get cases i c) ∙ ap (λ o. unwrap_or o c) at) (h i c (slice_get_within cases i c at))

pub case-at : (n : ℕ) (cases : List PupilCase) (i : ℕ) (c : PupilCase) → ArePupils n cases → slice_get cases i ≡ Some c → IsCase n c
case-at n cases i c h at = subst (IsCase n) (sym (unwrap_or-slice_get cases i c) ∙ ap (λ o. unwrap_or o c) at) (h.each i c (slice_get_within cases i c at))

-- ---- one more reply

-- the case of a pupil that replied
abbrev pub replied_case : PupilCase → ℕ → Bool → PupilCase
replied_case c item right = record c { pupil = record c.pupil { replies = c.pupil.replies ++ record { q = item; right = right } ∷ [] } }

pub pupils-replied : (n : ℕ) (name : List ℕ) (cases : List PupilCase) (i item : ℕ) (right : Bool) (h : ArePupils n cases) (a : IsAt name cases i)
    → with_pupil (pupils_of cases) a.case.name (replied (pupil_of_case a.case) item right) ≡ pupils_of (set cases i (replied_case a.case item right))
pupils-replied n name cases i item right h a =
    let p = pupil_of_case a.case in
    let at : slice_get (pupils_of cases) i ≡ Some p = get-map pupil_of_case cases i a.case a.at in
    replaced-set pupil_name p.name (replied p item right) (pupils_of cases) i p (own_pupils cases h.own) at (own_name p.name)
    ∙ sym (map-set pupil_of_case cases i (replied_case a.case item right))

pub are-replied : (n : ℕ) (name : List ℕ) (cases : List PupilCase) (i item : ℕ) (right : Bool) → ArePupils n cases → (a : IsAt name cases i) → ArePupils n (set cases i (replied_case a.case item right))
are-replied n name cases i item right h a =
    let c = a.case in
    let case = case-at n cases i c h a.at in
    record {
      few_items = h.few_items;
      each = All-set (IsCase n) cases i (replied_case c item right) (record { states = case.states; few = case.few; settings = case.settings; items = case.items; start = case.start; good = case.good }) h.each;
      own = own-set case_name (replied_case c item right) cases i c h.own a.at refl;
      few = rw (length-set cases i (replied_case c item right)) h.few;
    }

-- ---- one less

pub pupils-closed : (name : List ℕ) (cases : List PupilCase) (i : ℕ) → have_own_names case_name cases ≡ true → IsAt name cases i → filter (λ p. not (has_name name p)) (pupils_of cases) ≡ pupils_of (remove cases i)
pupils-closed name cases i own a =
    let p = pupil_of_case a.case in
    let at : slice_get (pupils_of cases) i ≡ Some p = get-map pupil_of_case cases i a.case a.at in
    left_out-remove pupil_name name (pupils_of cases) i p (own_pupils cases own) at a.called
    ∙ sym (map-remove pupil_of_case cases i)

fewer : {X : Type 0} (xs : List X) (i : ℕ) → length (remove xs i) ≤ length xs
fewer [] zero = omega arith
fewer [] (suc i) = omega arith
fewer (x ∷ xs) zero = omega arith
fewer (x ∷ xs) (suc i) = omega (arith, fewer xs i)

pub are-closed : (n : ℕ) (cases : List PupilCase) (i : ℕ) → ArePupils n cases → ArePupils n (remove cases i)
are-closed n cases i h = record {
  few_items = h.few_items;
  each = All-append (IsCase n) (take i cases) (drop (suc i) cases) (All-take (IsCase n) i cases h.each) (All-drop (IsCase n) (suc i) cases h.each);
  own = own-remove case_name cases i h.own;
  few = omega (arith, fewer cases i, h.few);
}

-- ---- one more

pub are-more : (n : ℕ) (cases : List PupilCase) (c : PupilCase) → ArePupils n cases → length cases < most_pupils → list_any (is_called case_name c.name) cases ≡ false → IsCase n c → ArePupils n (cases ++ c ∷ [])
are-more n cases c h few apart own = record {
  few_items = h.few_items;
  each = All-push (IsCase n) cases c h.each own;
  own = own-push case_name cases c h.own apart;
  few = rw (length-append cases (c ∷ [])) (omega (arith, few));
}

-- ---- what the rows come to

module _ (n : ℕ) (name : List ℕ) (cases : List PupilCase) (i item : ℕ) (right : Bool) (h : ArePupils n cases) (a : IsAt name cases i) where
  asks : reply_fault (asked_of n (pupil_of_case a.case)) item ≡ reply_fault (asked a.case.pupil.settings a.case.pupil.states a.case.pupil.replies) item
  asks = ap (λ x. reply_fault x item) (asked-same n a.case (case-at n cases i a.case h a.at))

  pub reply-taken : (new : List PupilCase) → reply_fault (asked a.case.pupil.settings a.case.pupil.states a.case.pupil.replies) item ≡ None → new ≡ set cases i (replied_case a.case item right)
      → reply_row n (pupils_of cases) item right (pupil_with (pupils_of cases) name) ≡ record { response = Done (length a.case.pupil.replies + 1); next = pupils_of new }
  reply-taken new taken is =
      let p = pupil_of_case a.case in
      ap (reply_row n (pupils_of cases) item right) a.found
      ∙ row-taken n (pupils_of cases) item right p (asks ∙ taken)
      ∙ ap (λ (ps : List Pupil). record { response = Done (length p.replies + 1); next = ps }) (pupils-replied n name cases i item right h a ∙ ap pupils_of (sym is))

  pub reply-refused : (fault : ReplyFault) → reply_fault (asked a.case.pupil.settings a.case.pupil.states a.case.pupil.replies) item ≡ Some fault
      → reply_row n (pupils_of cases) item right (pupil_with (pupils_of cases) name) ≡ record { response = Refused (refusal.Reply fault); next = pupils_of cases }
  reply-refused fault refused =
      ap (reply_row n (pupils_of cases) item right) a.found ∙ row-refused n (pupils_of cases) item right (pupil_of_case a.case) fault (asks ∙ refused)

pub reply-none : (n : ℕ) (name : List ℕ) (cases : List PupilCase) (item : ℕ) (right : Bool) → pupil_with (pupils_of cases) name ≡ None
    → reply_row n (pupils_of cases) item right (pupil_with (pupils_of cases) name) ≡ record { response = Refused refusal.NoPupil; next = pupils_of cases }
reply-none n name cases item right none = ap (reply_row n (pupils_of cases) item right) none

pub close-found : (name : List ℕ) (cases : List PupilCase) (i : ℕ) → have_own_names case_name cases ≡ true → (a : IsAt name cases i)
    → close_row (pupils_of cases) name ≡ record { response = Agreed; next = pupils_of (remove cases i) }
close-found name cases i own a = rw a.found (ap (λ (ps : List Pupil). record { response = Agreed; next = ps }) (pupils-closed name cases i own a))

pub close-none : (name : List ℕ) (cases : List PupilCase) → pupil_with (pupils_of cases) name ≡ None → close_row (pupils_of cases) name ≡ record { response = Refused refusal.NoPupil; next = pupils_of cases }
close-none name cases none = rw none refl
