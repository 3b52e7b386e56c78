-- The names of pupils that are read, among those that stand.
use Rattle.ls_store.proofs.Vocabulary.{◌∙◌, ◌≡◌, Bool, Data, Err, IfOk, IsReadAs, List, None, Ok, Option, Pupil, PupilCase, Query, Ratios, Reply, Result, Some, Start, Text, Version, ℕ, ap, both, case_name, cond, false, is_called, is_pupil, is_some, is_some-position, kept_if, list_any, name_field, option_map, option_zip, position, pupil_codec, pupil_from, pupil_of_case, replies_field, settings_fields, start_field, subst, sym, true, yes_field}
use Rattle.ls_codecs.specs.declared.part_fault.PartFault.{PartFault}

-- ---- the name of a pupil is the one that stands in its object

kept : (b : Bool) (q p : Pupil) → cond b (Some q) None ≡ Some p → q.name ≡ p.name
kept true q p h = let same : q ≡ p = cc h in ap (λ (r : Pupil). r.name) same
kept false q p h = absurd (cc h)

name-kept : (test : Pupil → Bool) (name : Text) (settings : Option (List Ratios × (ℕ × ℕ))) (rest : Option (Start × (List Query × List Reply))) (p : Pupil)
    → kept_if test (option_map pupil_from (option_zip (option_zip (Some name) settings) rest)) ≡ Some p → name ≡ p.name
name-kept test name None rest p h = absurd (cc h)
name-kept test name (Some s) None p h = absurd (cc h)
name-kept test name (Some s) (Some parts) p h = let q = pupil_from ((name, s), parts) in kept (test q) q p h

module _ (v : Version) (n : ℕ) (d : Data) (name : Text) (named : name_field.find_in d ≡ Some name) (cases : List PupilCase) where
  name-read : (p : Pupil) → (pupil_codec v n).read d ≡ Some p → name ≡ p.name
  name-read p h =
      let settings = (settings_fields v n).find_in d in
      let rest = (both (start_field n) (both (yes_field n) (replies_field n))).find_in d in
      name-kept (is_pupil n) name settings rest p (ap (λ (o : Option Text). kept_if (is_pupil n) (option_map pupil_from (option_zip (option_zip o settings) rest))) (sym named) ∙ h)

  -- a case has the name
  pub name-there : (p : Pupil) → true ≡ is_some (position (is_called case_name name) cases) → (pupil_codec v n).read d ≡ Some p → list_any (is_called case_name p.name) cases ≡ true
  name-there p there h =
      subst (λ (w : List ℕ). list_any (is_called case_name w) cases ≡ true) (name-read p h) (sym (there ∙ is_some-position (is_called case_name name) cases))

  -- no case has it
  pub name-free : (found : Result PupilCase PartFault) → false ≡ is_some (position (is_called case_name name) cases) → IsReadAs pupil_of_case ((pupil_codec v n).read d) found
      → IfOk found (λ c. list_any (is_called case_name c.name) cases ≡ false)
  name-free (Err e) free h = tt
  name-free (Ok c) free h =
      subst (λ (w : List ℕ). list_any (is_called case_name w) cases ≡ false) (name-read (pupil_of_case c) h) (sym (free ∙ is_some-position (is_called case_name name) cases))
