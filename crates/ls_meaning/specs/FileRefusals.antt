-- What the refusals of skill maps, of parts and of pairs tell. Want of memory refuses no line.
use Rattle.std.specs.Prelude.{ℕ, [], ◌∷◌, codes}
use Rattle.ls_origins.specs.declared.skill_fault.SkillFault.{SkillFault}
use Rattle.ls_origins.specs.declared.skill_fault.SkillFault.TheVariants as skill
use Rattle.ls_origins.specs.declared.mesh_fault.MeshFault.{MeshFault}
use Rattle.ls_origins.specs.declared.mesh_fault.MeshFault.TheVariants as mesh
use Rattle.ls_origins.specs.declared.pair_fault.PairFault.{PairFault}
use Rattle.ls_origins.specs.declared.pair_fault.PairFault.TheVariants as pair
use Rattle.ls_files.specs.declared.family_fault.FamilyFault.{FamilyFault}
use Rattle.ls_files.specs.declared.family_fault.FamilyFault.TheVariants as sets
use Rattle.ls_meaning.specs.Told.{Notice, told, Word, Number, Item}

-- a file that is no skill map
abbrev pub skill_notice : SkillFault → Notice
skill_notice skill.BadJson = told 60 (Word (codes "json") ∷ [])
skill_notice skill.UnknownItem = told 60 (Word (codes "unknown") ∷ [])
skill_notice (skill.NoSkill q) = told 60 (Word (codes "no-skill") ∷ Item q ∷ [])
skill_notice (skill.Wide count) = told 60 (Word (codes "wide") ∷ Number count ∷ [])
skill_notice (skill.Memory e) = told 60 []

-- the file of a side that is no list of sets: the side, and what `test` tells of such a file
abbrev pub part_notice : ℕ → FamilyFault → Notice
part_notice side (sets.BadLine row) = told 70 (Number side ∷ Word (codes "line") ∷ Number row ∷ [])
part_notice side (sets.UnknownItem row) =
    told 70 (Number side ∷ Word (codes "unknown-item") ∷ Number row ∷ [])
part_notice side (sets.Repeat row first) =
    told 70 (Number side ∷ Word (codes "repeat") ∷ Number row ∷ Number first ∷ [])
part_notice side (sets.TooMany row) = told 70 (Number side ∷ Word (codes "many") ∷ Number row ∷ [])
part_notice side (sets.Memory e) = told 70 (Number side ∷ [])

-- two parts that have no mesh
abbrev pub mesh_notice : MeshFault → Notice
mesh_notice (mesh.NotCovered q) = told 70 (Word (codes "uncovered") ∷ Item q ∷ [])
mesh_notice (mesh.Wide side count) =
    told 70 (Word (codes "wide") ∷ Number side ∷ Number count ∷ [])
mesh_notice (mesh.Memory e) = told 70 []

-- a file of pairs that gives no relation
abbrev pub pair_notice : PairFault → Notice
pair_notice (pair.BadLine row) = told 80 (Word (codes "line") ∷ Number row ∷ [])
pair_notice (pair.UnknownItem row) = told 80 (Word (codes "unknown-item") ∷ Number row ∷ [])
pair_notice (pair.Cycle q) = told 80 (Word (codes "cycle") ∷ Item q ∷ [])
pair_notice (pair.Memory e) = told 80 []
