-- What two files that are refused as parts tell.
use Rattle.std.proofs.Common.{[], ◌++◌, ◌∷◌, ◌≡◌, Err, List, Ok, Result, ap, length, refl, ℕ}
use Rattle.ls_set.specs.{Items}
use Rattle.ls_laws.specs.Spans.{AreOn}
use Rattle.ls_cutting.specs.{Text}
use Rattle.ls_family.proofs.Fitting.{each-fits, sets-fit}
use Rattle.ls_files.specs.SetFiles.{sets_of}
use Rattle.ls_files.specs.declared.family_fault.FamilyFault.{FamilyFault}
use Rattle.ls_meaning.specs.Effects.{refuse_fault}
use Rattle.ls_meaning.specs.MeshRows.{part_refusals, two_parts}
use Rattle.ls_meaning.specs.Rows.{sets_read}
use Rattle.ls_meaning.specs.declared.response.Refusal.{Refusal}
use Rattle.ls_meaning.specs.declared.response.Refusal.TheVariants.{Mesh}
use Rattle.ls_origins.specs.Meshes.{mesh_fault}

module _ (n : ℕ) (left right : Result (List Items) FamilyFault) where
  abbrev meshed : List Refusal
  meshed = refuse_fault Mesh (mesh_fault n (sets_read left) (sets_read right))

  -- the first is no list of sets
  pub first_refused : (refusal : Refusal) → part_refusals 1 left ≡ refusal ∷ []
      → (rest : List Refusal) × (two_parts n left right ≡ refusal ∷ rest)
  first_refused refusal e = (
    part_refusals 2 right ++ meshed,
    ap (λ (rs : List Refusal). rs ++ part_refusals 2 right ++ meshed) e,
  )

  -- or it is one, and the second is none
  pub second_refused : (sets : List Items) (refusal : Refusal) → left ≡ Ok sets
      → part_refusals 2 right ≡ refusal ∷ []
      → (rest : List Refusal) × (two_parts n left right ≡ refusal ∷ rest)
  second_refused sets refusal read e =
      let none : part_refusals 1 left ≡ [] = ap (part_refusals 1) read in
      (meshed, rw (none, e) refl)

-- the sets that a file gives are sets of the items
pub sets-on : (names : List Text) (bytes : List ℕ)
    → AreOn (length names) (sets_read (sets_of names bytes))
sets-on names bytes = go (sets_of names bytes) refl
  where
    go : (r : Result (List Items) FamilyFault) → sets_of names bytes ≡ r
        → AreOn (length names) (sets_read r)
    go (Ok sets) e = λ k among. each-fits (length names) sets k (sets-fit names bytes sets e) among
    go (Err fault) e = λ k among. absurd (cc among)
