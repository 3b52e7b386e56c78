-- What two files give: their parts, and the mesh of these; or the refusal of files that give none.
use Rattle.std.specs.Prelude.{◌≡◌, ℕ, List, [], ◌∷◌, Result, Ok, Err}
use Rattle.ls_set.specs.{Items}
use Rattle.ls_files.specs.declared.family_fault.FamilyFault.{FamilyFault}
use Rattle.ls_family.specs.Members.{FamilyState}
use Rattle.ls_mesh.specs.Meshed.{IsMeshOf, MeshState}
use Rattle.ls_meaning.specs.MeshRows.{part_refusals, two_parts}
use Rattle.ls_meaning.specs.Rows.{sets_read}
use Rattle.ls_meaning.specs.declared.response.Refusal.{Refusal}

-- the sets of the file of a side, or the refusal of a file that is no list of sets
abbrev pub IsPartRead : ℕ → Result (List Items) FamilyFault → Result FamilyState Refusal → Type 0
IsPartRead side reading (Ok family) = reading ≡ Ok family.sets
IsPartRead side reading (Err refusal) = part_refusals side reading ≡ refusal ∷ []

-- the mesh of two parts that were read
abbrev pub IsMeshRead : ℕ → Result (List Items) FamilyFault → Result (List Items) FamilyFault
    → Result MeshState Refusal → Type 0
IsMeshRead n left right (Ok mesh) =
    (two_parts n left right ≡ []) × IsMeshOf n (sets_read left) (sets_read right) mesh
IsMeshRead n left right (Err refusal) =
    (rest : List Refusal) × (two_parts n left right ≡ refusal ∷ rest)
