-- The rows of the mesh of two parts.
use Rattle.std.specs.Prelude.{ℕ, List, [], ◌∷◌, ◌++◌, length, Option, Result, Ok, Err}
use Rattle.ls_set.specs.{Items}
use Rattle.ls_set.specs.declared.cursor.CursorFault.{CursorFault}
use Rattle.ls_origins.specs.Meshes.{agree, mesh_fault, mesh_of}
use Rattle.ls_lines.specs.{Text}
use Rattle.ls_files.specs.SetFiles.{sets_of}
use Rattle.ls_files.specs.declared.family_fault.FamilyFault.{FamilyFault}
use Rattle.ls_meaning.specs.Scenes.{Fetched}
use Rattle.ls_meaning.specs.Effects.{refuse_fault, ◌otherwise◌}
use Rattle.ls_meaning.specs.Rows.{after_or, bytes_fetched, cursor_refusals, file_refusals}
use Rattle.ls_meaning.specs.Rows.{sets_read}
use Rattle.ls_meaning.specs.StateLists.{states_on}
use Rattle.ls_meaning.specs.declared.response.Refusal.{Refusal}
use Rattle.ls_meaning.specs.declared.response.Refusal.TheVariants as refusal_of
use Rattle.ls_meaning.specs.declared.response.Response.{Response}
use Rattle.ls_meaning.specs.declared.response.Response.TheVariants.{Shown}
use Rattle.ls_meaning.specs.declared.response.Shown.TheVariants as shown

-- ---- the parts of two files

-- why the file of part 1, or of part 2, is no list of sets, if it is none
abbrev pub part_refusals : ℕ → Result (List Items) FamilyFault → List Refusal
part_refusals number (Ok sets) = []
part_refusals number (Err fault) = refusal_of.PartSets number fault ∷ []

-- two files are fetched: what keeps them from being so is told of the first, and then of the second
abbrev pub two_files : Fetched → Fetched → List Refusal
two_files left right = file_refusals left ++ file_refusals right

-- their sets are two parts that have a mesh
abbrev pub two_parts : ℕ → Result (List Items) FamilyFault → Result (List Items) FamilyFault
    → List Refusal
two_parts n left right =
    part_refusals 1 left ++ part_refusals 2 right
    ++ refuse_fault refusal_of.Mesh (mesh_fault n (sets_read left) (sets_read right))

-- ---- what is shown of them

-- after these refusals, as many sets of the mesh as are asked for
abbrev pub meshed_by : ℕ → ℕ → Option Items → List Refusal → Result (List Items) FamilyFault
    → Result (List Items) FamilyFault → Response
meshed_by n count after refusals left right =
    (refusals ++ two_parts n left right)
    otherwise Shown (shown.Mesh (states_on n (mesh_of n (sets_read left) (sets_read right)))
    count after)

-- `mesh`
abbrev pub mesh_row : List Text → Fetched → Fetched → ℕ → Result (Option Items) CursorFault
    → Response
mesh_row names left right count after =
    meshed_by (length names) count (after_or after)
    (cursor_refusals after ++ two_files left right)
    (sets_of names (bytes_fetched left)) (sets_of names (bytes_fetched right))

-- after these refusals, whether the parts agree on the items of both
abbrev pub agreed_by : ℕ → List Refusal → Result (List Items) FamilyFault
    → Result (List Items) FamilyFault → Response
agreed_by n refusals left right =
    (refusals ++ two_parts n left right)
    otherwise Shown (shown.Agree (agree n (sets_read left) (sets_read right)))

-- `mesh-agree`
abbrev pub mesh_agree_row : List Text → Fetched → Fetched → Response
mesh_agree_row names left right =
    agreed_by (length names) (two_files left right)
    (sets_of names (bytes_fetched left)) (sets_of names (bytes_fetched right))
