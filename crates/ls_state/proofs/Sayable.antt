-- What a line is answered can be said of the session after it.
use Rattle.ls_state.proofs.Vocabulary.{[], ◌==◌, ◌∙◌, ◌∷◌, ◌≡◌, Agreed, Bool, Calls, CanSay, Command, Done, Edit, Effect, FileCommand, Interview, IsAfterLine, IsSound, List, LongLine, None, OpeningCommand, Option, Pupil, PupilRequest, Refusal, Refused, Response, Session, Setting, Settings, Shown, Silence, Some, Text, Unnamed, ViewCommand, ℕ, answers, ap, can-view, changed, changes, changes_interview, changes_pupils, changes_settings, command_effect, command_of, cond, edit_item_words, edit_of, edit_row, false, file_effect, has_domain, in_domain, is_long, is_shown, length, line_effect, not, opening_row, pupil_item_words, pupil_name, pupil_of, pupil_row, pupil_with, question_shown, refl, reply_row, report_shown, setting_item_words, setting_of, setting_row, shown_of, started, stores, subst, sym, true, unless_unnamed, unnamed, view_item_words, view_of, view_row, words, words_effect, Accepted, SafeCommand, changes_safe, safe_item_words, safe_of, safe_row}
use Rattle.ls_lines.specs.declared.command.Command.TheVariants as command
use Rattle.ls_lines.specs.declared.opening.OpeningCommand.TheVariants as openings
use Rattle.ls_lines.specs.declared.file.FileCommand.TheVariants as files
use Rattle.ls_meaning.specs.declared.request.Edit.TheVariants as edit
use Rattle.ls_meaning.specs.declared.request.Setting.TheVariants as setting
use Rattle.ls_meaning.specs.declared.request.PupilRequest.TheVariants as pupil
use Rattle.ls_meaning.specs.declared.request.SkillModel.TheVariants.{Disjunctive, Conjunctive}
use Rattle.ls_state.proofs.FilesShown.{can-agree, can-mesh, can-otherwise, can-skills}
use Rattle.ls_state.proofs.Meant.{view_of-on}
use Rattle.ls_state.proofs.SafeShown.{can-safe, safe_of-on}

-- of an effect: its response can be said of the interview after it, if that stands on its names; and where there are no names nothing is shown
record IsSayable (e : Effect) : Type 0 where
  can : length e.session.names ≡ e.session.interview.count → IsSound e.session.interview → CanSay (length e.session.names) e.session.interview e.response
  bare : e.session.names ≡ [] → is_shown e.response ≡ false

-- ---- responses that show nothing, or what can always be said

module _ (n : ℕ) (i : Interview) where
  can-unshown : (r : Response) → is_shown r ≡ false → CanSay n i r
  can-unshown Silence e = tt
  can-unshown (Refused refusal) e = tt
  can-unshown (Done number) e = tt
  can-unshown Agreed e = tt
  can-unshown (Accepted number applied pending) e = tt
  can-unshown (Shown what) e = absurd (cc e)

  can-changed : {A : Type 0} (old next : A) (refusals : List Refusal) (r : Response) → CanSay n i r → CanSay n i (changed old refusals r next).response
  can-changed old next [] r can = can
  can-changed old next (refusal ∷ refusals) r can = tt

  can-edit : (j : Interview) (e : Edit) → CanSay n i (edit_row j e).response
  can-edit j (edit.Blocks size) = search (can-changed)
  can-edit j (edit.Answer r is_yes) = search (can-changed)
  can-edit j (edit.Retract number) = search (can-changed)

  can-set : (settings : Settings) (s : Setting) → CanSay n i (setting_row settings s).response
  can-set settings (setting.All ratios) = search (can-changed)
  can-set settings (setting.Item item ratios) = search (can-changed)
  can-set settings (setting.Limits budget share) = search (can-changed)

  can-shown : (show : Pupil → Response) → ((p : Pupil) → CanSay n i (show p)) → (o : Option Pupil) → CanSay n i (shown_of show o)
  can-shown show can None = tt
  can-shown show can (Some p) = can p

  can-reply : (m : ℕ) (pupils : List Pupil) (item : ℕ) (right : Bool) (o : Option Pupil) → CanSay n i (reply_row m pupils item right o).response
  can-reply m pupils item right None = tt
  can-reply m pupils item right (Some p) = search (can-changed)

  can-pupil : (j : Interview) (settings : Settings) (pupils : List Pupil) (name : Text) (what : PupilRequest) → CanSay n i (pupil_row j settings pupils name what).response
  can-pupil j settings pupils name pupil.Begin = search (can-changed)
  can-pupil j settings pupils name pupil.Question = can-shown (question_shown j.count) (λ p. tt) (pupil_with pupils name)
  can-pupil j settings pupils name (pupil.Reply item right) = can-reply j.count pupils item right (pupil_with pupils name)
  can-pupil j settings pupils name pupil.Report = can-shown (report_shown j.count) (λ p. tt) (pupil_with pupils name)
  can-pupil j settings pupils name pupil.Close = search (can-changed)

-- ---- effects

unshown : (e : Effect) → is_shown e.response ≡ false → IsSayable e
unshown e h = record { can = λ items sound. can-unshown (length e.session.names) e.session.interview e.response h; bare = λ none. h }

changed-unshown : {A : Type 0} (old next : A) (refusals : List Refusal) (r : Response) → is_shown r ≡ false → is_shown (changed old refusals r next).response ≡ false
changed-unshown old next [] r h = h
changed-unshown old next (refusal ∷ refusals) r h = refl

stores-unshown : (s : Session) (refusals : List Refusal) (name : Text) (bytes : List ℕ) → is_shown (stores s refusals name bytes).response ≡ false
stores-unshown s [] name bytes = refl
stores-unshown s (refusal ∷ refusals) name bytes = refl

-- a domain has names
nameless : (s : Session) → has_domain s ≡ true → s.names ≡ [] → ⊥
nameless s stands none = let none_stands : false ≡ true = ap (λ (names : List Text). not (length names == 0)) (sym none) ∙ stands in cc none_stands

-- where the names stay those of a domain
standing : (s : Session) (e : Effect) → has_domain s ≡ true → e.session.names ≡ s.names → ((n : ℕ) (i : Interview) → CanSay n i e.response) → IsSayable e
standing s e stands kept can = record { can = λ items sound. can (length e.session.names) e.session.interview; bare = λ none. absurd (nameless s stands (sym kept ∙ none)) }

-- where nothing changes
shows : (s : Session) (r : Response) → has_domain s ≡ true → CanSay (length s.names) s.interview r → IsSayable (answers s r)
shows s r stands can = record { can = λ items sound. can; bare = λ none. absurd (nameless s stands none) }

unless : (s : Session) (e : Effect) (places : List ℕ) → (places ≡ [] → IsSayable e) → IsSayable (unless_unnamed s places e)
unless s e [] h = h refl
unless s e (place ∷ places) h = unshown (answers s (Refused (Unnamed place))) refl

in-domain : (s : Session) (e : Effect) → (has_domain s ≡ true → IsSayable e) → IsSayable (in_domain s e)
in-domain s e h = elim (has_domain s) as (λ b. (b ≡ true → IsSayable e) → IsSayable (cond b e (answers s (Refused (Unnamed 0))))) [ true ↦ λ h. h refl | false ↦ λ h. unshown (answers s (Refused (Unnamed 0))) refl ] h

asked : (s : Session) (words : List (ℕ × Text)) (e : Effect) → (has_domain s ≡ true → unnamed s.names words ≡ [] → IsSayable e) → IsSayable (in_domain s (unless_unnamed s (unnamed s.names words) e))
asked s words e h = in-domain s (unless_unnamed s (unnamed s.names words) e) (λ stands. unless s e (unnamed s.names words) (h stands))

-- ---- commands and lines

module _ (s : Session) (calls : Calls) where
  opening-sayable : (c : OpeningCommand) → IsSayable (changes (opening_row s calls c))
  opening-sayable (openings.Items names) = unshown _ (search (changed-unshown))
  opening-sayable (openings.LoadItems file) = unshown _ (search (changed-unshown))
  opening-sayable (openings.Reopen file) = unshown _ (search (changed-unshown))

  file-sayable : has_domain s ≡ true → (c : FileCommand) → IsSayable (file_effect s calls c)
  file-sayable stands (files.StartSurmise file) = unshown _ (search (changed-unshown))
  file-sayable stands (files.StartBase file) = unshown _ (search (changed-unshown))
  file-sayable stands (files.Test file) = standing s _ stands refl (λ n i. search (can-otherwise))
  file-sayable stands (files.Class file) = standing s _ stands refl (λ n i. search (can-otherwise))
  file-sayable stands (files.Save file) = unshown _ (search (stores-unshown))
  file-sayable stands (files.StartRelation file) = unshown _ (search (changed-unshown))
  file-sayable stands (files.SkillsAny file count after) = shows s _ stands (can-skills s.names s.interview count after Disjunctive (calls.file file))
  file-sayable stands (files.SkillsAll file count after) = shows s _ stands (can-skills s.names s.interview count after Conjunctive (calls.file file))
  file-sayable stands (files.Mesh left right count after) = shows s _ stands (can-mesh s.names s.interview count after (calls.file left) (calls.file right))
  file-sayable stands (files.MeshAgree left right) = shows s _ stands (can-agree s.names s.interview (calls.file left) (calls.file right))

  view-sayable : has_domain s ≡ true → (c : ViewCommand) → unnamed s.names (view_item_words c) ≡ [] → IsSayable (answers s (view_row s.interview (view_of s.names c)))
  view-sayable stands c none = record {
    can = λ items sound. can-view (length s.names) s.interview items sound (view_of s.names c) (view_of-on s.names c none);
    bare = λ no_names. absurd (nameless s stands no_names);
  }

  safe-sayable : has_domain s ≡ true → (c : SafeCommand) → IsSayable (changes_safe s (safe_row s.interview s.safe (safe_of s.names c)))
  safe-sayable stands c = record {
    can = λ items sound. can-safe (length s.names) s.interview items s.safe (safe_of s.names c) (safe_of-on s.names c);
    bare = λ no_names. absurd (nameless s stands no_names);
  }

  command-sayable : (c : Command) → IsSayable (command_effect s calls c)
  unfolding command_effect
  command-sayable command.Nothing = unshown (answers s Silence) refl
  command-sayable (command.Opening c) = opening-sayable c
  command-sayable (command.File c) = in-domain s (file_effect s calls c) (λ stands. file-sayable stands c)
  command-sayable (command.Edit c) = asked s (edit_item_words c) (changes_interview s (edit_row s.interview (edit_of s.names c))) (λ stands none. standing s _ stands refl (λ n i. can-edit n i s.interview (edit_of s.names c)))
  command-sayable (command.View c) = asked s (view_item_words c) (answers s (view_row s.interview (view_of s.names c))) (λ stands none. view-sayable stands c none)
  command-sayable (command.Setting c) = asked s (setting_item_words c) (changes_settings s (setting_row s.settings (setting_of s.names c))) (λ stands none. standing s _ stands refl (λ n i. can-set n i s.settings (setting_of s.names c)))
  command-sayable (command.Safe c) = asked s (safe_item_words c) (changes_safe s (safe_row s.interview s.safe (safe_of s.names c))) (λ stands none. safe-sayable stands c)
  command-sayable (command.Pupil c) = asked s (pupil_item_words c) (changes_pupils s (pupil_row s.interview s.settings s.pupils (pupil_name c) (pupil_of s.names c))) (λ stands none. standing s _ stands refl (λ n i. can-pupil n i s.interview s.settings s.pupils (pupil_name c) (pupil_of s.names c)))

  line-sayable : (line : List ℕ) → IsSayable (line_effect s calls line)
  unfolding line_effect
  line-sayable line = go (is_long line) (command_of (words line))
    where
      go : (long : Bool) (o : Option Command) → IsSayable (cond long (answers s (Refused (LongLine (length line)))) (words_effect s calls (words line) o))
      go true o = unshown _ refl
      go false None = unshown _ refl
      go false (Some c) = command-sayable c

-- the response to a line can be said of the session after it
pub can_say : {s : Session} {r : Response} → IsAfterLine s r → length s.names ≡ s.interview.count → IsSound s.interview → CanSay (length s.names) s.interview r
can_say {s} {r} after items sound =
    let e = line_effect after.old after.calls after.line in
    let P : Session → Response → Type 0 = λ t q. length t.names ≡ t.interview.count → IsSound t.interview → CanSay (length t.names) t.interview q in
    subst (λ t. P t r) (sym after.session) (subst (λ q. P e.session q) (sym after.responded) (line-sayable after.old after.calls after.line).can) items sound

-- and nothing is shown where no domain stands then
pub nothing_shown : {r : Response} → IsAfterLine (started []) r → is_shown r ≡ false
nothing_shown {r} after =
    ap is_shown after.responded ∙ (line-sayable after.old after.calls after.line).bare (sym (ap (λ (t : Session). t.names) after.session))
