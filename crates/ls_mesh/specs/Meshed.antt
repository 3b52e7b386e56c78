-- What contracts see of a mesh.
use Rattle.std.specs.Prelude.{ℕ, ◌≡◌, List, Option, Some, ⊤}
use Rattle.ls_set.specs.ItemSet.{Items}
use Rattle.ls_laws.specs.Spans.{spanned}
use Rattle.ls_origins.specs.Meshes.{part_items}
use Rattle.ls_origins.specs.declared.mesh_fault.MeshFault.{MeshFault}
use Rattle.ls_origins.specs.declared.mesh_fault.MeshFault.TheVariants.{Memory}
use Rattle.ls_mesh.specs.Sides.{both}
use Rattle.ls_origins.specs.Meshes.{side_base}

-- a number of items, the sets of the bases of the two sides, and the items of the two parts
pub record MeshState : Type 0 where
  pub item_count : ℕ
  pub left : List Items
  pub right : List Items
  pub left_items : Items
  pub right_items : Items

-- the sets that both sides span
abbrev pub meshed : MeshState → List Items
meshed m = both (spanned m.item_count m.left) (spanned m.item_count m.right)

-- that of two parts on n items, by their sets
pub record IsMeshOf (n : ℕ) (left right : List Items) (m : MeshState) : Type 0 where
  pub items : m.item_count ≡ n
  pub left_base : m.left ≡ side_base n left
  pub right_base : m.right ≡ side_base n right
  pub left_items : m.left_items ≡ part_items left
  pub right_items : m.right_items ≡ part_items right

-- the fault is the one that is found, unless memory ran out
abbrev pub IsMeshFaultOf : Option MeshFault → MeshFault → Type 0
IsMeshFaultOf found (Memory e) = ⊤
IsMeshFaultOf found fault = found ≡ Some fault
