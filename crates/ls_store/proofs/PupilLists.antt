-- Lists of pupils: which are read, and in which a name comes twice or which are too long.
use Rattle.ls_store.proofs.Vocabulary.{ArePupils, Bool, Data, Err, IsErrAnd, IsReadAs, List, None, Ok, Option, Pupil, PupilCase, Result, Some, [], and_from, and_parts, ap, append_assoc, ap₂, are_apart, are_pupils, as_array, bytes_eq, case_name, cases_Bool, cond, drop, false, get_or, have_own_names, inl, inr, is_called, items_view, kept_if, le-leb, leb, length, length-map, list_any, lt-leb, map, map_push, most_pupils, not, option_and_then, option_map, pupil_of_case, pupils_of, read_each, read_list, refl, subst, suc, sym, true, view, ℕ, ◌&&◌, ◌++◌, ◌+◌, ◌<◌, ◌||◌, ◌∙◌, ◌∷◌, ◌≡◌, ◌≤◌}
use Rattle.std.proofs.lemmas.Slice.Eq.{bytes_eq-Decides}
use Rattle.serde_json.specs.declared.value.Value.{Value}
use Rattle.ls_codecs.specs.declared.part_fault.PartFault.{PartFault}
use Rattle.ls_codecs.specs.declared.part_fault.PartFault.TheVariants as part
use Rattle.ls_set.proofs.Sets.{and-false}
use Rattle.ls_codecs.proofs.Walks.{IsReadTo, read-last, read-next, read-none}

abbrev names_of : List Pupil → List (List ℕ)
names_of ps = map (λ p. p.name) ps

same_sym : (a b : List ℕ) (r s : Bool) → r ≡ bytes_eq a b → s ≡ bytes_eq b a → r ≡ s
same_sym a b true s e f = sym (f ∙ (bytes_eq-Decides b a).1 (sym ((bytes_eq-Decides a b).0 (sym e))))
same_sym a b false true e f = e ∙ (bytes_eq-Decides a b).1 (sym ((bytes_eq-Decides b a).0 (sym f)))
same_sym a b false false e f = refl

swapped : (a b : List ℕ) → bytes_eq a b ≡ bytes_eq b a
swapped a b = same_sym a b _ _ refl refl

-- ---- names that differ

any-swapped : (w : List ℕ) (cases : List PupilCase) → list_any (is_called case_name w) cases ≡ list_any (bytes_eq w) (names_of (pupils_of cases))
any-swapped w [] = refl
any-swapped w (c ∷ cases) = ap₂ (λ a b. a || b) (swapped c.name w) (any-swapped w cases)

own-apart : (cases : List PupilCase) → have_own_names case_name cases ≡ true → are_apart bytes_eq (names_of (pupils_of cases)) ≡ true
own-apart [] h = refl
own-apart (c ∷ cases) h =
    let parts = and_parts (not (list_any (is_called case_name c.name) cases)) (have_own_names case_name cases) h in
    and_from (not (list_any (bytes_eq c.name) (names_of (pupils_of cases)))) (are_apart bytes_eq (names_of (pupils_of cases)))
    (ap not (sym (any-swapped c.name cases)) ∙ parts.0) (own-apart cases parts.1)

pub pupils-stand : (n : ℕ) (cases : List PupilCase) → ArePupils n cases → are_pupils (pupils_of cases) ≡ true
pupils-stand n cases h =
    let few : length (pupils_of cases) ≤ most_pupils = rw (length-map cases pupil_of_case) h.few in
    and_from (leb (length (pupils_of cases)) most_pupils) (are_apart bytes_eq (names_of (pupils_of cases)))
    (le-leb (length (pupils_of cases)) most_pupils few) (own-apart cases h.own)

-- ---- a name that comes twice

any-there : (q : List ℕ → Bool) (before : List PupilCase) (p : Pupil) (after : List Pupil) → q p.name ≡ true → list_any q (names_of (pupils_of before ++ p ∷ after)) ≡ true
any-there q [] p after h = rw h refl
any-there q (c ∷ before) p after h = or_right (q c.name) _ (any-there q before p after h)
  where
    or_right : (a b : Bool) → b ≡ true → (a || b) ≡ true
    or_right true b h = refl
    or_right false b h = h

repeats : (before : List PupilCase) (p : Pupil) (after : List Pupil) → list_any (is_called case_name p.name) before ≡ true → are_apart bytes_eq (names_of (pupils_of before ++ p ∷ after)) ≡ false
repeats [] p after h = absurd (cc h)
repeats (c ∷ before) p after h =
    elim (cases_Bool (bytes_eq c.name p.name)) [
      | inl e ↦ rw (any-there (bytes_eq c.name) before p after e) refl
      | inr e ↦
          let rest : list_any (is_called case_name p.name) before ≡ true = rw e at h in
          ap (λ b. not (list_any (bytes_eq c.name) (names_of (pupils_of before ++ p ∷ after))) && b) (repeats before p after rest) ∙ and-false _
    ]

refused : (ps : List Pupil) → are_apart bytes_eq (names_of ps) ≡ false → are_pupils ps ≡ false
refused ps h = ap (λ b. leb (length ps) most_pupils && b) h ∙ and-false _

not_kept : (ps : List Pupil) → are_pupils ps ≡ false → None ≡ kept_if are_pupils (Some ps)
not_kept ps h = sym (ap (λ b. cond b (Some ps) None) h)

-- ---- the walk

module _ (f : Data → Option Pupil) (cases : List PupilCase) (values : List Value) (i : ℕ) (value : Value) (whole : Option (List Pupil)) (within : i < length values) (at : value ≡ get_or values i value) where
  repeated : (p : Pupil) → f (view value) ≡ Some p → list_any (is_called case_name p.name) cases ≡ true → IsReadTo f (pupils_of cases) (drop i values) whole → None ≡ kept_if are_pupils whole
  repeated p is named h = told (read_each f (items_view (drop (i + 1) values))) (read-next f (pupils_of cases) p values i value whole within at is h)
    where
      told : (o : Option (List Pupil)) → option_map (λ ys. (pupils_of cases ++ p ∷ []) ++ ys) o ≡ whole → None ≡ kept_if are_pupils whole
      told None e = ap (kept_if are_pupils) e
      told (Some ys) e =
          let ps = pupils_of cases ++ p ∷ ys in
          not_kept ps (refused ps (repeats cases p ys named)) ∙ ap (λ l. kept_if are_pupils (Some l)) (sym (append_assoc (pupils_of cases) (p ∷ []) ys)) ∙ ap (kept_if are_pupils) e

  -- an entry that is no pupil, or whose name comes twice
  pub none-next : ((p : Pupil) → f (view value) ≡ Some p → list_any (is_called case_name p.name) cases ≡ true) → IsReadTo f (pupils_of cases) (drop i values) whole → None ≡ kept_if are_pupils whole
  none-next named h = told (f (view value)) refl
    where
      told : (o : Option Pupil) → f (view value) ≡ o → None ≡ kept_if are_pupils whole
      told None e = ap (kept_if are_pupils) (read-none f (pupils_of cases) values i value whole within at e h)
      told (Some p) e = repeated p e (named p e) h

-- one more pupil
pub next-read : (f : Data → Option Pupil) (cases new : List PupilCase) (c : PupilCase) (values : List Value) (i : ℕ) (value : Value) (whole : Option (List Pupil)) → i < length values → value ≡ get_or values i value
    → f (view value) ≡ Some (pupil_of_case c) → new ≡ cases ++ c ∷ [] → IsReadTo f (pupils_of cases) (drop i values) whole → IsReadTo f (pupils_of new) (drop (i + 1) values) whole
next-read f cases new c values i value whole within at is more h =
    subst (λ (ps : List Pupil). IsReadTo f ps (drop (i + 1) values) whole) (sym (ap pupils_of more ∙ map_push pupil_of_case cases c))
    (read-next f (pupils_of cases) (pupil_of_case c) values i value whole within at is h)

-- the end
pub all-read : (n : ℕ) (f : Data → Option Pupil) (cases : List PupilCase) (values : List Value) (i : ℕ) (whole : Option (List Pupil)) → length values ≤ i → ArePupils n cases → IsReadTo f (pupils_of cases) (drop i values) whole
    → Some (pupils_of cases) ≡ kept_if are_pupils whole
all-read n f cases values i whole end are h =
    let ps = pupils_of cases in
    sym (ap (λ b. cond b (Some ps) None) (pupils-stand n cases are)) ∙ ap (kept_if are_pupils) (read-last f ps values i whole end h)

-- ---- too many

read-length : (f : Data → Option Pupil) (values : List Value) (ps : List Pupil) → read_each f (items_view values) ≡ Some ps → length ps ≡ length values
read-length f [] ps e = let same : [] ≡ ps = cc e in ap (λ l. length l) (sym same)
read-length f (v ∷ values) ps e = told (f (view v)) (read_each f (items_view values)) refl e (λ qs. read-length f values qs)
  where
    told : (first : Option Pupil) (rest : Option (List Pupil)) → read_each f (items_view values) ≡ rest → option_and_then (λ y. option_map (λ ys. y ∷ ys) rest) first ≡ Some ps
        → ((qs : List Pupil) → read_each f (items_view values) ≡ Some qs → length qs ≡ length values) → length ps ≡ suc (length values)
    told None rest r h again = absurd (cc h)
    told (Some p) None r h again = absurd (cc h)
    told (Some p) (Some qs) r h again = let same : p ∷ qs ≡ ps = cc h in ap (λ l. length l) (sym same) ∙ ap suc (again qs r)

pub too-many : (f : Data → Option Pupil) (values : List Value) (d : Data) → most_pupils < length values → Some (items_view values) ≡ as_array d → None ≡ kept_if are_pupils (read_list f d)
too-many f values d many e = told (read_each f (items_view values)) refl ∙ ap (λ o. kept_if are_pupils (option_and_then (read_each f) o)) e
  where
    told : (o : Option (List Pupil)) → read_each f (items_view values) ≡ o → None ≡ kept_if are_pupils o
    told None r = refl
    told (Some ps) r =
        let long : most_pupils < length ps = rw (read-length f values ps r) many in
        not_kept ps (ap (λ b. b && are_apart bytes_eq (names_of ps)) (lt-leb (length ps) most_pupils long))

-- what is not read, as what is in it is not
pub missed : {X Y : Type 0} (of : Y → X) (answer : Option X) (f : PartFault) (r : Result Y PartFault) → IsErrAnd r (λ g. g ≡ f) → (f ≡ part.Bad → answer ≡ None) → IsReadAs of answer r
missed of answer f (Ok y) same h = absurd same
missed of answer f (Err part.Bad) same h = h (sym same)
missed of answer f (Err (part.Memory e)) same h = tt

-- a fault tells the same of whatever would have been read
pub fault-as : {X Y Z : Type 0} (of : Y → X) (on : Z → X) (answer : Option X) (f : PartFault) → IsReadAs of answer (Err f) → IsReadAs on answer (Err f)
fault-as of on answer part.Bad h = h
fault-as of on answer (part.Memory e) h = tt

pub none-as : {X Y : Type 0} (of : Y → X) (answer : Option X) (f : PartFault) → f ≡ part.Bad → IsReadAs of answer (Err f) → answer ≡ None
none-as of answer part.Bad e h = h
none-as of answer (part.Memory m) e h = absurd (cc e)
