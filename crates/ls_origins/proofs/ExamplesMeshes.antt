-- Examples of meshes on the items a b c. The parts u and v agree on the item b, and so do u and w;
-- u and t do not.
use Rattle.std.proofs.Common.{◌≡◌, List, [], ◌∷◌, Some, None, true, false, refl}
use Rattle.ls_set.specs.ItemSet.{Items}
use Rattle.ls_origins.specs.Meshes.{part_items, mesh_of, mesh_fault, agree, side}
use Rattle.ls_origins.specs.declared.mesh_fault.MeshFault.TheVariants.{NotCovered}
use Rattle.ls_origins.proofs.Small.{words, ∅, a, b, ab, c, bc, abc}

abbrev u : List Items
u = a ∷ ab ∷ []

abbrev v : List Items
v = b ∷ bc ∷ []

abbrev w : List Items
w = bc ∷ []

abbrev t : List Items
t = b ∷ ab ∷ c ∷ []

mesh_of_u_and_v : mesh_of 3 u v ≡ abc ∷ ab ∷ a ∷ ∅ ∷ []
unfolding words
mesh_of_u_and_v = refl

agree_on_b : agree 3 u v ≡ true
unfolding words
agree_on_b = refl

mesh_of_u_and_w : mesh_of 3 u w ≡ abc ∷ a ∷ ∅ ∷ []
unfolding words
mesh_of_u_and_w = refl

agree_on_b_too : agree 3 u w ≡ true
unfolding words
agree_on_b_too = refl

mesh_of_u_and_t : mesh_of 3 u t ≡ abc ∷ ab ∷ c ∷ ∅ ∷ []
unfolding words
mesh_of_u_and_t = refl

do_not_agree : agree 3 u t ≡ false
unfolding words
do_not_agree = refl

-- a part with itself
uncovered_c : mesh_fault 3 u u ≡ Some (NotCovered 2)
unfolding words
uncovered_c = refl

covered : mesh_fault 3 u v ≡ None
unfolding words
covered = refl

-- the sets of the side v, and the item a
side_of_v : side 3 (part_items v) v ≡ b ∷ bc ∷ a ∷ []
unfolding words
side_of_v = refl

-- parts without an item in common agree: each has the empty set alone to show
apart : agree 3 (a ∷ []) (bc ∷ []) ≡ true
unfolding words
apart = refl

-- a part of no set has no item and the one state without items
no_set : mesh_of 3 [] (abc ∷ c ∷ []) ≡ abc ∷ c ∷ ∅ ∷ []
unfolding words
no_set = refl
