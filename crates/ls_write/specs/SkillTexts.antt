-- The text of a skill map, piece by piece.
use Rattle.std.specs.Prelude.{ℕ, false, List, ◌∷◌, [], ◌++◌}
use Rattle.json.specs.Print.{quoted}
use Rattle.ls_cutting.specs.{Text}
use Rattle.ls_files.specs.SkillFiles.{Skill, own_skills}
use Rattle.ls_room.specs.Names.{quoted_name}
use Rattle.ls_write.specs.SurmiseTexts.{listed}

-- names in brackets
abbrev pub names_text : List Text → Text
names_text ws = 91 ∷ listed quoted false ws ++ 93 ∷ []

-- the name of an item, and those of its skills
abbrev pub skills_row_text : List Text → List Skill → ℕ → Text
skills_row_text names skills i = quoted_name names i ++ 58 ∷ names_text (own_skills skills i)
