-- The rows of skill maps.
use Rattle.std.specs.Prelude.{ℕ, List, [], ◌∷◌, ◌++◌, length, Option, Result, Ok, Err}
use Rattle.ls_set.specs.{Items}
use Rattle.ls_set.specs.declared.cursor.CursorFault.{CursorFault}
use Rattle.ls_origins.specs.Skills.{any, all}
use Rattle.ls_origins.specs.declared.skill_fault.SkillFault.{SkillFault}
use Rattle.ls_lines.specs.{Text}
use Rattle.ls_files.specs.SkillFiles.{Skill, item_sets, skills_of}
use Rattle.ls_meaning.specs.Scenes.{Fetched}
use Rattle.ls_meaning.specs.Effects.{◌otherwise◌}
use Rattle.ls_meaning.specs.Rows.{after_or, bytes_fetched, cursor_refusals, file_refusals}
use Rattle.ls_meaning.specs.declared.request.SkillModel.{SkillModel}
use Rattle.ls_meaning.specs.declared.request.SkillModel.TheVariants.{Disjunctive, Conjunctive}
use Rattle.ls_meaning.specs.declared.response.Refusal.{Refusal}
use Rattle.ls_meaning.specs.declared.response.Refusal.TheVariants as refusal_of
use Rattle.ls_meaning.specs.declared.response.Response.{Response}
use Rattle.ls_meaning.specs.declared.response.Response.TheVariants.{Shown}
use Rattle.ls_meaning.specs.StateLists.{states_on}
use Rattle.ls_meaning.specs.declared.response.Shown.{Shown as Showing}
use Rattle.ls_meaning.specs.declared.response.Shown.TheVariants as shown

-- the items of each skill of a file
abbrev pub skills_read : Result (List Skill) SkillFault → List Items
skills_read (Ok skills) = item_sets skills
skills_read (Err fault) = []

-- why a file is no skill file, if it is none
abbrev pub skill_refusals : Result (List Skill) SkillFault → List Refusal
skill_refusals (Ok skills) = []
skill_refusals (Err fault) = refusal_of.Skills fault ∷ []

-- as many as are asked for of the states among n items that the skills' sets delineate
abbrev pub delineated : ℕ → SkillModel → List Items → ℕ → Option Items → Showing
delineated n Disjunctive skills count after =
    shown.Unions (states_on n (any n skills)) count after
delineated n Conjunctive skills count after =
    shown.Duals (states_on n (all n skills)) count after

-- that is shown, after these refusals
abbrev pub delineated_by : SkillModel → ℕ → ℕ → Option Items → List Refusal
    → Result (List Skill) SkillFault → Response
delineated_by model n count after refusals reading =
    (refusals ++ skill_refusals reading)
    otherwise Shown (delineated n model (skills_read reading) count after)

-- `skills any` and `skills all`
abbrev pub skills_row : SkillModel → List Text → Fetched → ℕ
    → Result (Option Items) CursorFault → Response
skills_row model names fetched count after =
    delineated_by model (length names) count (after_or after)
    (cursor_refusals after ++ file_refusals fetched) (skills_of names (bytes_fetched fetched))
