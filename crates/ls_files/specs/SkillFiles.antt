-- Skill files: an object whose keys are the items' names, and whose values are arrays of skills'
-- names, which are any texts.
--     skills_of names bytes      the skills of a file, in the order of their names' bytes; or the
--         first fault
--     skills_text names skills      the text of a skill map
--     base_skills sets      the skills of a base: one for each set, in order
use Rattle.std.specs.Prelude.{ℕ, suc, ◌+◌, ◌/◌, ◌%◌, Bool, ◌==◌, nat_lt, if◌then◌else◌, List, []}
use Rattle.std.specs.Prelude.{◌∷◌, map, filter, length, position, slice_index_or, bytes_eq, Option}
use Rattle.std.specs.Prelude.{Result, Ok, Err, ⊤, ◌≡◌}
use Rattle.std.specs.List.{list_any, list_all, flat_map}
use Rattle.std.specs.Option.{option_map_or, option_and_then}
use Rattle.serde_json.specs.Data.{Data, string, object, Members}
use Rattle.serde_json.specs.Find.{as_str, as_object}
use Rattle.serde_json.specs.Written.{compact_text}
use Rattle.ls_set.specs.ItemSet.{Items, has, set_of, numbers_from}
use Rattle.ls_theory.specs.Words.{is_lex_before}
use Rattle.ls_cutting.specs.Lines.{Text}
use Rattle.ls_domain.specs.Meanings.{is_named}
use Rattle.ls_files.specs.SurmiseFiles.{read_list, read_members, row_under, value_of, list_value}
use Rattle.ls_files.specs.SurmiseFiles.{put_each}
use Rattle.ls_origins.specs.Skills.{most_skills}
use Rattle.ls_origins.specs.declared.skill_fault.SkillFault.{SkillFault}
use Rattle.ls_origins.specs.declared.skill_fault.SkillFault.TheVariants.{BadJson, UnknownItem}
use Rattle.ls_origins.specs.declared.skill_fault.SkillFault.TheVariants.{NoSkill, Wide, Memory}

-- a skill: its name, and the items to which it is attached
pub record Skill : Type 0 where
  pub name : Text
  pub items : Items

-- the sets of a skill map
abbrev pub item_sets : List Skill → List Items
item_sets skills = map (λ s. s.items) skills

-- ---- the table of a file

-- keys, each with its list of texts
abbrev pub Table : Type 0
Table = List (Text × List Text)

-- an object of arrays of texts
abbrev pub read_table : Data → Option Table
read_table d = option_and_then (read_members (read_list as_str)) (as_object d)

-- the table of the bytes of a file, if they are such an object
unfoldable pub table_of : List ℕ → Option Table
table_of bytes = option_and_then read_table (value_of bytes)

-- each key is an item's name
unfoldable pub has_named_keys : List Text → Table → Bool
has_named_keys names table = list_all (λ row. is_named names row.0) table

-- of each item in turn, the names of its skills
unfoldable pub rows_in : List Text → Table → List (List Text)
rows_in names table = map (row_under table) names

-- ---- the skills of a table

-- the least item without a skill
abbrev pub first_bare : List (List Text) → Option ℕ
first_bare rows = position (λ row. length row == 0) rows

-- one text more, at its place in the order of bytes, unless it is there
abbrev pub with_text : Text → List Text → List Text
with_text w [] = w ∷ []
with_text w (x ∷ xs) =
    if bytes_eq w x then x ∷ xs else (if is_lex_before w x then w ∷ x ∷ xs else x ∷ with_text w xs)

-- the texts in that order, each once
abbrev pub in_text_order : List Text → List Text
in_text_order [] = []
in_text_order (w ∷ ws) = with_text w (in_text_order ws)

-- the items whose row has the text
abbrev pub items_with : List (List Text) → Text → Items
items_with rows w =
    set_of
    (filter (λ q. list_any (bytes_eq w) (slice_index_or rows q [])) (numbers_from 0 (length rows)))

-- each text of the rows as a skill
unfoldable pub skills_in : List (List Text) → List Skill
skills_in rows =
    map (λ w. record { name = w; items = items_with rows w })
    (in_text_order (flat_map (λ row. row) rows))

-- the skills, unless there are too many
abbrev pub few_skills : List Skill → Result (List Skill) SkillFault
few_skills skills =
    if nat_lt most_skills (length skills) then Err (Wide (length skills)) else Ok skills

-- the skills of rows of which each has one
unfoldable pub skills_from : List (List Text) → Result (List Skill) SkillFault
skills_from rows =
    option_map_or (λ q. Err (NoSkill q)) (first_bare rows) (few_skills (skills_in rows))

-- the skills of a table: that each key names an item is tried first
abbrev pub skills_named : List Text → Table → Result (List Skill) SkillFault
skills_named names table =
    if has_named_keys names table then skills_from (rows_in names table) else Err UnknownItem

-- the skills of a file; or the first fault
unfoldable pub skills_of : List Text → List ℕ → Result (List Skill) SkillFault
skills_of names bytes = option_map_or (skills_named names) (table_of bytes) (Err BadJson)

-- the fault is that of the reading, unless memory ran out
abbrev pub IsSkillFaultOf : {X : Type 0} → Result X SkillFault → SkillFault → Type 0
IsSkillFaultOf reading (Memory e) = ⊤
IsSkillFaultOf reading fault = reading ≡ Err fault

-- the items that a fault names
abbrev pub skill_items : SkillFault → List ℕ
skill_items (NoSkill q) = q ∷ []
skill_items fault = []

-- ---- the text of a skill map

-- the names of the skills of an item, in their order
abbrev pub own_skills : List Skill → ℕ → List Text
own_skills skills q = map (λ s. s.name) (filter (λ s. has s.items q) skills)

-- of each of the n items in turn
unfoldable pub rows_of : ℕ → List Skill → List (List Text)
rows_of n skills = map (own_skills skills) (numbers_from 0 n)

-- the rows under their items' names
unfoldable pub members_from : List Text → List (List Text) → Members
members_from ws rows = put_each (list_value string) ws rows

-- an object: under each item's name, the names of its skills
abbrev pub skills_value : List Text → List Skill → Data
skills_value names skills = object (members_from names (rows_of (length names) skills))

unfoldable pub skills_text : List Text → List Skill → List ℕ
skills_text names skills = compact_text (skills_value names skills)

-- ---- the skills of a base

-- the digit of a place of a number
abbrev pub digit_of : ℕ → ℕ → ℕ
digit_of number power = 48 + number / power % 10

-- `s` and the four digits of the number
unfoldable pub skill_name : ℕ → Text
skill_name number =
    115 ∷ digit_of number 1000 ∷ digit_of number 100 ∷ digit_of number 10 ∷ digit_of number 1 ∷ []

-- a skill for each set, numbered on
abbrev pub numbered_skills : ℕ → List Items → List Skill
numbered_skills number [] = []
numbered_skills number (s ∷ sets) =
    record { name = skill_name number; items = s } ∷ numbered_skills (suc number) sets

abbrev pub base_skills : List Items → List Skill
base_skills sets = numbered_skills 1 sets
