-- The values of cases are those of their pupils.
use Rattle.ls_store.proofs.Vocabulary.{◌∷◌, ◌≡◌, List, PupilCase, ℕ, [], ap, item, items_of, list_value, lists, map, pupil_codec, pupil_of_case, pupils_of, refl, array}
use Rattle.ls_files.specs.declared.version.Version.TheVariants as version

case-items : (n : ℕ) (cases : List PupilCase) → items_of (map (λ c. (pupil_codec version.Ratios n).write (pupil_of_case c)) cases) ≡ items_of (map (pupil_codec version.Ratios n).write (pupils_of cases))
case-items n [] = refl
case-items n (c ∷ cases) = ap (item ((pupil_codec version.Ratios n).write (pupil_of_case c))) (case-items n cases)

pub case-values : (n : ℕ) (cases : List PupilCase) → list_value (λ c. (pupil_codec version.Ratios n).write (pupil_of_case c)) cases ≡ (lists (pupil_codec version.Ratios n)).write (pupils_of cases)
case-values n cases = ap array (case-items n cases)
