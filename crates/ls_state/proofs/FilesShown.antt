-- What files of skill maps and of parts show can be said.
use Rattle.ls_state.proofs.Vocabulary.{[], ◌++◌, ◌∷◌, ◌≡◌, ◌otherwise◌, CanSay, CursorFault, Err, Fetched, Interview, IsAfterOn, Items, List, Ok, Option, Refusal, Response, Result, Text, ℕ, after_of, bytes_fetched, file_refusals, full, length, refl, sets_of}
use Rattle.ls_files.specs.SkillFiles.{skills_of}
use Rattle.ls_meaning.specs.MeshRows.{mesh_agree_row, mesh_row, two_files, two_parts}
use Rattle.ls_meaning.specs.SkillRows.{delineated, skill_refusals, skills_read, skills_row}
use Rattle.ls_meaning.specs.declared.request.SkillModel.{SkillModel}
use Rattle.ls_meaning.specs.declared.request.SkillModel.TheVariants.{Disjunctive, Conjunctive}
use Rattle.ls_write.specs.Showing.{CanShow}
use Rattle.ls_state.proofs.Meant.{after-on}

module _ (n : ℕ) (i : Interview) where
  pub can-otherwise : (refusals : List Refusal) (r : Response) → CanSay n i r → CanSay n i (refusals otherwise r)
  can-otherwise [] r can = can
  can-otherwise (refusal ∷ refusals) r can = tt

module _ (names : List Text) (i : Interview) (count : ℕ) (after : Option Text) where
  abbrev n : ℕ
  n = length names

  pub can-skills : (model : SkillModel) (fetched : Fetched) → CanSay n i (skills_row model names fetched count (after_of n after))
  can-skills model fetched = go (after_of n after) (after-on n after)
    where
      by_model : (model : SkillModel) (skills : List Items) (from : Option Items) → IsAfterOn n (Ok from) → CanShow n i (delineated n model skills count from)
      by_model Disjunctive skills from on = (refl, on)
      by_model Conjunctive skills from on = (refl, on)

      go : (r : Result (Option Items) CursorFault) → IsAfterOn n r → CanSay n i (skills_row model names fetched count r)
      go (Ok from) on =
          let reading = skills_of names (bytes_fetched fetched) in
          can-otherwise n i (file_refusals fetched ++ skill_refusals reading) _ (by_model model (skills_read reading) from on)
      go (Err fault) on = tt

  pub can-mesh : (left right : Fetched) → CanSay n i (mesh_row names left right count (after_of n after))
  can-mesh left right = go (after_of n after) (after-on n after)
    where
      go : (r : Result (Option Items) CursorFault) → IsAfterOn n r → CanSay n i (mesh_row names left right count r)
      go (Ok from) on =
          can-otherwise n i (two_files left right ++ two_parts n (sets_of names (bytes_fetched left)) (sets_of names (bytes_fetched right))) _
          (refl, on)
      go (Err fault) on = tt

pub can-agree : (names : List Text) (i : Interview) (left right : Fetched) → CanSay (length names) i (mesh_agree_row names left right)
can-agree names i left right =
    can-otherwise (length names) i (two_files left right ++ two_parts (length names) (sets_of names (bytes_fetched left)) (sets_of names (bytes_fetched right))) _ tt
