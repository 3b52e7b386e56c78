-- The text of a skill map is that of its pieces.
use Rattle.ls_write.proofs.Vocabulary.{◌++◌, ◌+◌, ◌<◌, ◌∙◌, ◌∷◌, ◌≡◌, IsDomain, Items, List, Text}
use Rattle.ls_write.proofs.Vocabulary.{ℕ, [], ap, ap₂, arith, codes, false, get_or, items_by_name}
use Rattle.ls_write.proofs.Vocabulary.{length, line_bytes, line_of, listed, own_skills, quoted_name}
use Rattle.ls_write.proofs.Vocabulary.{refl, skills_line, skills_row_text, suc, sym, zero}
use Rattle.serde_json.specs.Data.{string}
use Rattle.ls_files.specs.SurmiseFiles.{list_value}
use Rattle.ls_files.specs.SkillFiles.{Skill, base_skills, members_from, numbered_skills, rows_of}
use Rattle.ls_files.specs.SkillFiles.{skill_name, skills_text}
use Rattle.ls_write.proofs.Rows.{array-listed, line-braced, rows-listed}

skills-rows : (names : List Text) (skills : List Skill) → IsDomain names
    → skills_text names skills ≡ 123
    ∷ listed (skills_row_text names skills) false (items_by_name names) ++ 125 ∷ []
unfolding skills_text members_from rows_of
skills-rows names skills is =
    rows-listed names is.are_names.distinct (list_value string) members_from refl
    (λ w ws r rs. refl) (own_skills skills) (skills_row_text names skills)
    (λ i. ap (λ l. quoted_name names i ++ 58 ∷ 91 ∷ l)
    (array-listed string false (own_skills skills i)))

pub line-skills : (names : List Text) (sets : List Items) → IsDomain names
    → (codes
    "skills {" ++ listed (skills_row_text names (base_skills sets)) false (items_by_name names))
    ++ codes "}\n" ≡ line_bytes (skills_line names sets)
line-skills names sets is =
    line-braced
    (codes "skills")
    (listed (skills_row_text names (base_skills sets)) false (items_by_name names))
    ∙ ap (λ t. line_of (codes "skills" ∷ t ∷ [])) (sym (skills-rows names (base_skills sets) is))

-- ---- the skills of a base

pub length-numbered : (number : ℕ) (sets : List Items) → length (numbered_skills number sets)
    ≡ length sets
length-numbered number [] = refl
length-numbered number (s ∷ sets) = ap suc (length-numbered (suc number) sets)

abbrev pub named : ℕ → Items → Skill
named number s = record { name = skill_name number; items = s }

-- the skill at a place
pub numbered-at : (number : ℕ) (sets : List Items) (i : ℕ) (s : Items) (x : Skill) → i < length sets
    → s ≡ get_or sets i s
    → named (number + i) s ≡ get_or (numbered_skills number sets) i x
numbered-at number [] i s x lt at = absurd (omega arith)
numbered-at number (t ∷ sets) zero s x lt at =
    ap₂ named (let e : number + 0 ≡ number = omega arith in e) at
numbered-at number (t ∷ sets) (suc i) s x lt at =
    ap (λ k. named k s) (let e : number + suc i ≡ suc number + i = omega arith in e) ∙ numbered-at
    (suc number) sets i s x (omega arith) at
