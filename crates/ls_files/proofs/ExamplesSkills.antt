-- Examples of skill files on the items a b c, after their bytes were read as a table.
use Rattle.std.proofs.Common.{◌≡◌, refl, ℕ, List, [], ◌∷◌, Ok, Err, codes}
use Rattle.json.specs.Print.{escape_byte}
use Rattle.ls_set.specs.ItemSet.{has, empty, with, union, single}
use Rattle.ls_cutting.specs.Lines.{Text}
use Rattle.ls_origins.specs.declared.skill_fault.SkillFault.TheVariants.{UnknownItem, NoSkill}
use Rattle.ls_files.specs.SkillFiles.{Skill, has_named_keys, rows_in, skills_in, skills_from}
use Rattle.ls_files.specs.SkillFiles.{skills_named, rows_of, skill_name, base_skills, members_from}
use Rattle.ls_files.specs.SkillFiles.{skills_text}

unfoldable reading : ℕ
unfolding has empty with union single has_named_keys rows_in skills_in skills_from rows_of
    skill_name members_from skills_text escape_byte
reading = 0

abbrev a : Text
a = codes "a"

abbrev b : Text
b = codes "b"

abbrev c : Text
c = codes "c"

abbrev names : List Text
names = a ∷ b ∷ c ∷ []

abbrev skill : Text → ℕ → Skill
skill w digits = record { name = w; items = record { digits = digits } }

two_skills
    : skills_named
    names ((a, codes "s" ∷ []) ∷ (b, codes "s" ∷ codes "t" ∷ []) ∷ (c, codes "t" ∷ []) ∷ [])
    ≡ Ok (skill (codes "s") 3 ∷ skill (codes "t") 6 ∷ [])
unfolding reading
two_skills = refl

-- in whatever order they stand, and repeated or not; the order is that of bytes, and a name may be
-- empty
in_order
    : skills_named
    names
    ((c, codes "t" ∷ codes "" ∷ []) ∷ (b, codes "t" ∷ codes "T" ∷ codes "t" ∷ [])
    ∷ (a, codes "ta" ∷ []) ∷ [])
    ≡ Ok (skill [] 4 ∷ skill (codes "T") 2 ∷ skill (codes "t") 6 ∷ skill (codes "ta") 1 ∷ [])
unfolding reading
in_order = refl

-- the least item without a key or with an empty array
no_skill : skills_named names ((a, codes "s" ∷ []) ∷ (b, []) ∷ []) ≡ Err (NoSkill 1)
unfolding reading
no_skill = refl

no_key : skills_named names ((c, []) ∷ (b, codes "s" ∷ []) ∷ []) ≡ Err (NoSkill 0)
unfolding reading
no_key = refl

-- a key that is no item's is told before an item without a skill
unknown : skills_named names ((a, []) ∷ (codes "z", codes "s" ∷ []) ∷ []) ≡ Err UnknownItem
unfolding reading
unknown = refl

-- the skills of the base {a b}, {a}, {c}
of_a_base : base_skills (record { digits = 3 } ∷ record { digits = 1 } ∷ record { digits = 4 } ∷ [])
    ≡ skill (codes "s0001") 3 ∷ skill (codes "s0002") 1 ∷ skill (codes "s0003") 4 ∷ []
unfolding reading
of_a_base = refl

their_rows
    : rows_of
    3 (base_skills (record { digits = 3 } ∷ record { digits = 1 } ∷ record { digits = 4 } ∷ []))
    ≡ (codes "s0001" ∷ codes "s0002" ∷ []) ∷ (codes "s0001" ∷ []) ∷ (codes "s0003" ∷ []) ∷ []
unfolding reading
their_rows = refl

last_name : skill_name 4096 ≡ codes "s4096"
unfolding reading
last_name = refl

-- their text
their_text
    : skills_text
    names (base_skills (record { digits = 3 } ∷ record { digits = 1 } ∷ record { digits = 4 } ∷ []))
    ≡ codes "{\"a\":[\"s0001\",\"s0002\"],\"b\":[\"s0001\"],\"c\":[\"s0003\"]}"
unfolding reading
their_text = refl
