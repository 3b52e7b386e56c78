-- What a command that only looks, or stores no file, leaves as it was.
use Rattle.ls_meaning.proofs.Vocabulary.{◌∷◌, ◌≡◌, [], Calls, Effect, List, None, Option, Session, Some, Text, ℕ, ap, command_effect, command_of, false, line_effect, refl, subst, words}
use Rattle.ls_lines.specs.declared.command.Command.{Command}
use Rattle.ls_lines.specs.declared.command.Command.TheVariants as command
use Rattle.ls_lines.specs.declared.file.FileCommand.{FileCommand}
use Rattle.ls_lines.specs.declared.file.FileCommand.TheVariants as files
use Rattle.ls_lines.specs.declared.safe.SafeCommand.{SafeCommand}
use Rattle.ls_lines.specs.declared.safe.SafeCommand.TheVariants as safes
use Rattle.ls_lines.specs.declared.pupil.PupilCommand.{PupilCommand}
use Rattle.ls_lines.specs.declared.pupil.PupilCommand.TheVariants as pupils
use Rattle.ls_origins.specs.Safe.{SafeInterview}
use Rattle.std.specs.Prelude.{IfSome}
use Rattle.ls_meaning.specs.Effects.{stores}
use Rattle.ls_meaning.specs.Looking.{is_save, is_start, may_change, may_change_pupils, may_change_safe, stores_file}
use Rattle.ls_meaning.specs.Meanings.{safe_of}
use Rattle.ls_meaning.specs.Replies.{file_effect, in_domain, pupil_effect, unless_unnamed}
use Rattle.ls_meaning.specs.SafeRows.{safe_row}
use Rattle.ls_meaning.specs.declared.response.Refusal.{Refusal}
use Rattle.ls_meaning.proofs.Effects.{domain-has, line-has, named-has}

module _ (s : Session) (calls : Calls) where
  -- ---- the session stays

  abbrev IsSame : Effect → Type 0
  IsSame e = e.session ≡ s

  stores-same : (refusals : List Refusal) (name : Text) (bytes : List ℕ)
      → IsSame (stores s refusals name bytes)
  stores-same [] name bytes = refl
  stores-same (refusal ∷ refusals) name bytes = refl

  file-same : (c : FileCommand) → is_start c ≡ false → IsSame (file_effect s calls c)
  file-same (files.StartSurmise file) e = absurd (cc e)
  file-same (files.StartBase file) e = absurd (cc e)
  file-same (files.StartRelation file) e = absurd (cc e)
  file-same (files.Save file) e = stores-same _ _ _
  file-same (files.Test file) e = refl
  file-same (files.Class file) e = refl
  file-same (files.SkillsAny file count after) e = refl
  file-same (files.SkillsAll file count after) e = refl
  file-same (files.Mesh left right count after) e = refl
  file-same (files.MeshAgree left right) e = refl

  safe-same : (o : Option SafeInterview) (c : SafeCommand) → may_change_safe c ≡ false
      → (safe_row s.interview o (safe_of s.names c)).next ≡ o
  safe-same o safes.Open e = absurd (cc e)
  safe-same o (safes.Answer ws w) e = absurd (cc e)
  safe-same (Some x) safes.List e = refl
  safe-same None safes.List e = refl
  safe-same (Some x) (safes.States count after) e = refl
  safe-same None (safes.States count after) e = refl
  safe-same o safes.Close e = absurd (cc e)

  pupil-same : (c : PupilCommand) → may_change_pupils c ≡ false → IsSame (pupil_effect s c)
  pupil-same (pupils.Pupil name) e = absurd (cc e)
  pupil-same (pupils.Question name) e = refl
  pupil-same (pupils.Reply name item right) e = absurd (cc e)
  pupil-same (pupils.Report name) e = refl
  pupil-same (pupils.Close name) e = absurd (cc e)

  asked-same : (places : List ℕ) (e : Effect) → IsSame e → IsSame (in_domain s (unless_unnamed s places e))
  asked-same places e h =
      domain-has s IsSame (λ r. refl) _ (named-has s IsSame (λ r. refl) places e h)

  command-same : (c : Command) → may_change c ≡ false → IsSame (command_effect s calls c)
  unfolding command_effect
  command-same command.Nothing e = refl
  command-same (command.Opening c) e = absurd (cc e)
  command-same (command.File c) e = domain-has s IsSame (λ r. refl) _ (file-same c e)
  command-same (command.Edit c) e = absurd (cc e)
  command-same (command.View c) e = search (asked-same)
  command-same (command.Safe c) e =
      let same = ap (λ (x : Option SafeInterview). record s { safe = x }) (safe-same s.safe c e) in
      search (asked-same, same)
  command-same (command.Setting c) e = absurd (cc e)
  command-same (command.Pupil c) e = domain-has s IsSame (λ r. refl) _ (pupil-same c e)

  pub line-same : (line : List ℕ) → IfSome (command_of (words line)) (λ c. may_change c ≡ false)
      → IsSame (line_effect s calls line)
  line-same line h =
      line-has s IsSame (λ r. refl) calls line
      (λ c is. command-same c (subst (λ o. IfSome o (λ c. may_change c ≡ false)) is h))

  -- ---- no file is stored

  abbrev HasNone : Effect → Type 0
  HasNone e = e.stored ≡ None

  file-none : (c : FileCommand) → is_save c ≡ false → HasNone (file_effect s calls c)
  file-none (files.StartSurmise file) e = refl
  file-none (files.StartBase file) e = refl
  file-none (files.StartRelation file) e = refl
  file-none (files.Save file) e = absurd (cc e)
  file-none (files.Test file) e = refl
  file-none (files.Class file) e = refl
  file-none (files.SkillsAny file count after) e = refl
  file-none (files.SkillsAll file count after) e = refl
  file-none (files.Mesh left right count after) e = refl
  file-none (files.MeshAgree left right) e = refl

  asked-none : (places : List ℕ) (e : Effect) → HasNone e
      → HasNone (in_domain s (unless_unnamed s places e))
  asked-none places e h =
      domain-has s HasNone (λ r. refl) _ (named-has s HasNone (λ r. refl) places e h)

  command-none : (c : Command) → stores_file c ≡ false → HasNone (command_effect s calls c)
  unfolding command_effect
  command-none command.Nothing e = refl
  command-none (command.Opening c) e = refl
  command-none (command.File c) e = domain-has s HasNone (λ r. refl) _ (file-none c e)
  command-none (command.Edit c) e = search (asked-none)
  command-none (command.View c) e = search (asked-none)
  command-none (command.Safe c) e = search (asked-none)
  command-none (command.Setting c) e = search (asked-none)
  command-none (command.Pupil c) e = search (asked-none)

  pub line-none : (line : List ℕ) → IfSome (command_of (words line)) (λ c. stores_file c ≡ false)
      → HasNone (line_effect s calls line)
  line-none line h =
      line-has s HasNone (λ r. refl) calls line
      (λ c is. command-none c (subst (λ o. IfSome o (λ c. stores_file c ≡ false)) is h))
