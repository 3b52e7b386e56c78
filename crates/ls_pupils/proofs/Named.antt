-- The case of a name, at its place.
use Rattle.ls_pupils.proofs.Vocabulary.{◌+◌, ◌<◌, ◌∙◌, ◌∷◌, ◌≡◌, case_name, List, None, Option, Pupil, PupilCase, Some, ℕ, [], ap, arith, cases_Bool, false, get_or, inl, inr, is_called, is_some, length, list_any, option_map, position, position-here, position-later, pupil_of_case, pupil_with, pupils_of, refl, slice_get, slice_get_within, subst, suc, sym, true, unwrap_or, unwrap_or-slice_get}
use Rattle.ls_lists.proofs.Options.{nothing}

-- the case at the place, the first of the name
pub record IsAt (name : List ℕ) (cases : List PupilCase) (i : ℕ) : Type 0 where
  pub case : PupilCase
  pub at : slice_get cases i ≡ Some case
  pub called : is_called case_name name case ≡ true
  pub found : pupil_with (pupils_of cases) name ≡ Some (pupil_of_case case)

at_next : (name : List ℕ) (c : PupilCase) (cases : List PupilCase) (i : ℕ) → is_called case_name name c ≡ false → IsAt name cases i → IsAt name (c ∷ cases) (suc i)
at_next name c cases i e h = record { case = h.case; at = h.at; called = h.called; found = rw e h.found }

at_later : (name : List ℕ) (c : PupilCase) (cases : List PupilCase) (i : ℕ) (o : Option ℕ) → is_called case_name name c ≡ false → ((j : ℕ) → o ≡ Some j → IsAt name cases j) → option_map (λ j. 1 + j) o ≡ Some i → IsAt name (c ∷ cases) i
at_later name c cases i None e rest h = absurd (cc h)
at_later name c cases i (Some j) e rest h =
    let is : 1 + j ≡ i = cc h in
    let next : suc j ≡ i = omega (arith, is) in
    subst (IsAt name (c ∷ cases)) next (at_next name c cases j e (rest j refl))

pub named-at : (name : List ℕ) (cases : List PupilCase) (i : ℕ) → position (is_called case_name name) cases ≡ Some i → IsAt name cases i
named-at name [] i h = absurd (cc h)
named-at name (c ∷ cases) i h =
    elim (cases_Bool (is_called case_name name c)) [
      | inl e ↦
          let at : Some 0 ≡ Some i = sym (position-here (is_called case_name name) c cases e) ∙ h in
          let is : 0 ≡ i = cc at in
          subst (IsAt name (c ∷ cases)) is (record { case = c; at = refl; called = e; found = rw e refl })
      | inr e ↦ at_later name c cases i (position (is_called case_name name) cases) e (λ j at. named-at name cases j at) (sym (position-later (is_called case_name name) c cases e) ∙ h)
    ]

pub at-within : (name : List ℕ) (cases : List PupilCase) (i : ℕ) → position (is_called case_name name) cases ≡ Some i → i < length cases
at-within name cases i h = let a = named-at name cases i h in slice_get_within cases i a.case a.at

-- no case has the name
pub record IsNoName (name : List ℕ) (cases : List PupilCase) : Type 0 where
  pub none : pupil_with (pupils_of cases) name ≡ None
  pub apart : list_any (is_called case_name name) cases ≡ false

none_later : (name : List ℕ) (c : PupilCase) (cases : List PupilCase) (o : Option ℕ) → is_called case_name name c ≡ false → (o ≡ None → IsNoName name cases) → option_map (λ j. 1 + j) o ≡ None → IsNoName name (c ∷ cases)
none_later name c cases None e rest h = let r = rest refl in record { none = rw e r.none; apart = rw e r.apart }
none_later name c cases (Some j) e rest h = absurd (cc h)

pub not_named : (name : List ℕ) (cases : List PupilCase) → position (is_called case_name name) cases ≡ None → IsNoName name cases
not_named name [] h = record { none = refl; apart = refl }
not_named name (c ∷ cases) h =
    elim (cases_Bool (is_called case_name name c)) [
      | inl e ↦ absurd (let z : Some 0 ≡ None = sym (position-here (is_called case_name name) c cases e) ∙ h in cc z)
      | inr e ↦ none_later name c cases (position (is_called case_name name) cases) e (λ at. not_named name cases at) (sym (position-later (is_called case_name name) c cases e) ∙ h)
    ]

-- what stands at the place is that case
pub index-is : (name : List ℕ) (cases : List PupilCase) (i : ℕ) (c : PupilCase) (a : IsAt name cases i) → c ≡ get_or cases i c → c ≡ a.case
index-is name cases i c a is = is ∙ sym (unwrap_or-slice_get cases i c) ∙ ap (λ o. unwrap_or o c) a.at

-- whether there is one
pub stands : (name : List ℕ) (cases : List PupilCase) → is_some (position (is_called case_name name) cases) ≡ true → (p : Pupil) × (pupil_with (pupils_of cases) name ≡ Some p)
stands name cases h = go (position (is_called case_name name) cases) h (λ i at. named-at name cases i at)
  where
    go : (o : Option ℕ) → is_some o ≡ true → ((i : ℕ) → o ≡ Some i → IsAt name cases i) → (p : Pupil) × (pupil_with (pupils_of cases) name ≡ Some p)
    go None h at = absurd (cc h)
    go (Some i) h at = let a = at i refl in (pupil_of_case a.case, a.found)

pub not_standing : (name : List ℕ) (cases : List PupilCase) → is_some (position (is_called case_name name) cases) ≡ false → IsNoName name cases
not_standing name cases h = not_named name cases (nothing (position (is_called case_name name) cases) h)
