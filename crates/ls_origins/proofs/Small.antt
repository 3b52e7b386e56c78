-- What the examples share: sets of the items a b c, and the words that they open.
use Rattle.std.specs.Prelude.{ℕ, List, [], ◌∷◌}
use Rattle.ls_set.specs.ItemSet.{Items, has, empty, full, with, without, union, meet, minus, single}
use Rattle.ls_set.specs.ItemSet.{keep_before, differing, is_within, is_same, bound, items, len}
use Rattle.ls_set.specs.ItemSet.{least, comes_before}
use Rattle.ls_set.specs.declared.query.Query.{Query}
use Rattle.ls_theory.specs.Families.{interior}
use Rattle.ls_theory.specs.Compatible.{compat}
use Rattle.ls_theory.specs.Bases.{base}
use Rattle.ls_theory.specs.Verdict.{is_joined, is_well_graded}
use Rattle.ls_origins.specs.Safe.{safe, marked, safe_refusal}
use Rattle.ls_origins.specs.Skills.{any, all, duals}
use Rattle.ls_origins.specs.Meshes.{mesh, mesh_fault, agree}
use Rattle.ls_origins.specs.Relations.{kept_sets, relation, covers, relation_fault}

-- an example that opens this opens each word
unfoldable pub words : ℕ
unfolding has empty full with without union meet minus single keep_before differing is_within
    is_same bound items len least comes_before interior compat base is_joined is_well_graded safe
    marked safe_refusal any all duals mesh mesh_fault agree kept_sets relation covers relation_fault
words = 0

-- the query (A, q)
infix 90 ◌∶◌
abbrev pub ◌∶◌ : Items → ℕ → Query
s ∶ q = record { a = s; q = q }

abbrev pub set : ℕ → Items
set digits = record { digits = digits }

abbrev pub ∅ : Items
∅ = set 0

abbrev pub a : Items
a = set 1

abbrev pub b : Items
b = set 2

abbrev pub ab : Items
ab = set 3

abbrev pub c : Items
c = set 4

abbrev pub ac : Items
ac = set 5

abbrev pub bc : Items
bc = set 6

abbrev pub abc : Items
abc = set 7

-- the states in which all who fail a fail b
abbrev pub six_states : List Items
six_states = abc ∷ ab ∷ ac ∷ a ∷ c ∷ ∅ ∷ []
