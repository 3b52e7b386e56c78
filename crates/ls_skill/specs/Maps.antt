-- Skill maps: what contracts see of them.
--     SkillMapState      a number of items, and skills of them
--     IsMap n skills      the skills are a map of the n items
use Rattle.std.specs.Prelude.{ℕ, ◌≡◌, ◌≤◌, false, List, map, length, IsUtf8, String}
use Rattle.std.specs.List.{AllByRecursion}
use Rattle.std.specs.String.{string_bytes}
use Rattle.ls_lists.specs.Lists.{IsSorted}
use Rattle.ls_set.specs.ItemSet.{Items, empty, is_among, most_items}
use Rattle.ls_theory.specs.Words.{is_lex_before}
use Rattle.ls_clauses.specs.Starts.{IsCover}
use Rattle.ls_cutting.specs.Lines.{Text}
use Rattle.ls_origins.specs.Skills.{most_skills}
use Rattle.ls_files.specs.SkillFiles.{Skill, item_sets}

pub record SkillMapState : Type 0 where
  pub item_count : ℕ
  pub skills : List Skill

abbrev pub skill_names : List Skill → List Text
skill_names skills = map (λ s. s.name) skills

-- the names are text and ascend by their bytes; each skill has an item, of the n items alone; each
-- item has a skill; and there are not too many skills
pub record IsMap (n : ℕ) (skills : List Skill) : Type 0 where
  pub few_items : n ≤ most_items
  pub texts : AllByRecursion IsUtf8 (skill_names skills)
  pub ascend : IsSorted is_lex_before (skill_names skills)
  pub none_empty : is_among (item_sets skills) empty ≡ false
  pub cover : IsCover n (item_sets skills)
  pub few : length skills ≤ most_skills

-- what is seen of names and sets
abbrev pub skills_seen : {Z : Type 0} → List (String Z × Items) → List Skill
skills_seen entries = map (λ e. record { name = string_bytes e.0; items = e.1 }) entries
