-- What is read of the value of a skill file, step by step.
--     texts_in ds      the texts among values
--     own_row names d q      the texts of the array under the name of item q
--     are_keys_named names d      each key is an item's name
--     gathered q rows      the skills of the rows of the items from q on, the last item first
use Rattle.std.specs.Prelude.{ℕ, suc, Bool, true, false, ◌&&◌, List, [], ◌∷◌, map, length, find}
use Rattle.std.specs.Prelude.{bytes_eq, option_and_then}
use Rattle.std.specs.Option.{option_map_or}
use Rattle.std.specs.Ordering.{match_ordering, nat_cmp}
use Rattle.std.specs.Cmp.Lexicographic.{slice_cmp}
use Rattle.serde_json.specs.Data.{Data, Items as Values, no_items, item, Members, no_members}
use Rattle.serde_json.specs.Data.{member}
use Rattle.serde_json.specs.Find.{as_str, as_array, as_object, get}
use Rattle.ls_set.specs.ItemSet.{Items, empty, with, numbers_from}
use Rattle.ls_cutting.specs.Lines.{Text}
use Rattle.ls_domain.specs.Meanings.{is_named}
use Rattle.ls_domain.specs.Texts.{name_of}
use Rattle.ls_files.specs.SkillFiles.{Skill}

-- ---- the rows

abbrev pub texts_in : Values → List Text
texts_in no_items = []
texts_in (item d ds) = option_map_or (λ w. w ∷ texts_in ds) (as_str d) (texts_in ds)

abbrev pub own_row : List Text → Data → ℕ → List Text
own_row names d q = option_map_or texts_in (option_and_then as_array (get (name_of names q) d)) []

-- of each item in turn
abbrev pub rows_read : List Text → Data → List (List Text)
rows_read names d = map (own_row names d) (numbers_from 0 (length names))

abbrev pub are_named : List Text → Members → Bool
are_named names no_members = true
are_named names (member k d ms) = is_named names k && are_named names ms

abbrev pub are_keys_named : List Text → Data → Bool
are_keys_named names d = option_map_or (are_named names) (as_object d) false

-- ---- the skills

-- the items of the skill of that name
abbrev pub held_by : List Skill → Text → Items
held_by skills w = option_map_or (λ s. s.items) (find (λ s. bytes_eq w s.name) skills) empty

-- the skill of that name has the items, and stands in the order of names
abbrev pub put_skill : Text → Items → List Skill → List Skill
put_skill w items [] = record { name = w; items = items } ∷ []
put_skill w items (s ∷ skills) =
    match_ordering (slice_cmp nat_cmp w s.name) (record { name = w; items = items } ∷ s ∷ skills)
    (record { name = s.name; items = items } ∷ skills) (s ∷ put_skill w items skills)

-- the item has the skill too
abbrev pub with_skill : ℕ → Text → List Skill → List Skill
with_skill q w skills = put_skill w (with (held_by skills w) q) skills

-- the item has each of the skills, the last first
abbrev pub with_skills : ℕ → List Text → List Skill → List Skill
with_skills q [] skills = skills
with_skills q (w ∷ ws) skills = with_skill q w (with_skills q ws skills)

abbrev pub gathered : ℕ → List (List Text) → List Skill
gathered q [] = []
gathered q (row ∷ rows) = with_skills q row (gathered (suc q) rows)
