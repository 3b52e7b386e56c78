-- What a line that is refused leaves as it was.
use Rattle.ls_meaning.proofs.Vocabulary.{[], ◌∷◌, ◌≡◌, ◌∙◌, Bool, Calls, Change, Effect, List, None, Option, Session, Some, Text, ℕ, answers, ap, ap₂, command_effect, false, is_refusal, is_refused, line_effect, refl, reply_of, sym, true}
use Rattle.ls_lines.specs.declared.command.Command.{Command}
use Rattle.ls_lines.specs.declared.command.Command.TheVariants as command
use Rattle.ls_lines.specs.declared.opening.OpeningCommand.{OpeningCommand}
use Rattle.ls_lines.specs.declared.opening.OpeningCommand.TheVariants as openings
use Rattle.ls_lines.specs.declared.file.FileCommand.{FileCommand}
use Rattle.ls_lines.specs.declared.file.FileCommand.TheVariants as files
use Rattle.ls_lines.specs.{pupil_name}
use Rattle.ls_origins.specs.Safe.{SafeInterview}
use Rattle.ls_theory.specs.{Interview}
use Rattle.ls_theory.specs.Settings.{Settings}
use Rattle.std.proofs.lemmas.Bool.{true≢false}
use Rattle.ls_meaning.specs.Effects.{changed, stores}
use Rattle.ls_meaning.specs.Meanings.{edit_of, pupil_of, safe_of, setting_of}
use Rattle.ls_meaning.specs.Pupils.{pupil_row, pupil_with, reply_row, setting_row}
use Rattle.ls_meaning.specs.Replies.{file_effect, in_domain, opening_row, unless_unnamed}
use Rattle.ls_meaning.specs.Rows.{edit_row}
use Rattle.ls_meaning.specs.SafeRows.{safe_row}
use Rattle.ls_meaning.specs.Scenes.{calls_of}
use Rattle.ls_meaning.specs.Sessions.{Pupil}
use Rattle.ls_meaning.specs.Transcripts.{Marked, World, folder_with, reply_at, world_next}
use Rattle.ls_meaning.specs.declared.request.Edit.{Edit}
use Rattle.ls_meaning.specs.declared.request.Edit.TheVariants as edit
use Rattle.ls_meaning.specs.declared.request.PupilRequest.{PupilRequest}
use Rattle.ls_meaning.specs.declared.request.PupilRequest.TheVariants as pupil
use Rattle.ls_meaning.specs.declared.request.SafeRequest.{SafeRequest}
use Rattle.ls_meaning.specs.declared.request.SafeRequest.TheVariants as request
use Rattle.ls_meaning.specs.declared.request.Setting.{Setting}
use Rattle.ls_meaning.specs.declared.request.Setting.TheVariants as setting
use Rattle.ls_meaning.specs.declared.response.Refusal.{Refusal}
use Rattle.ls_meaning.specs.declared.response.Response.{Response}
use Rattle.ls_meaning.proofs.Effects.{domain-has, line-has, named-has}
use Rattle.ls_meaning.proofs.Refusing.{is_refusal-lines_of}

-- ---- a refused change leaves its part

abbrev IsKept : {A : Type 0} → A → Change A → Type 0
IsKept old c = is_refused c.response ≡ true → c.next ≡ old

changed-kept : {A : Type 0} (old next : A) (refusals : List Refusal) (r : Response)
    → is_refused r ≡ false → IsKept old (changed old refusals r next)
changed-kept old next [] r e refused = absurd (true≢false (sym refused ∙ e))
changed-kept old next (refusal ∷ refusals) r e refused = refl

opening-kept : (s : Session) (calls : Calls) (c : OpeningCommand) → IsKept s (opening_row s calls c)
opening-kept s calls (openings.Items names) = search (changed-kept)
opening-kept s calls (openings.LoadItems file) = search (changed-kept)
opening-kept s calls (openings.Reopen file) = search (changed-kept)

edit-kept : (i : Interview) (e : Edit) → IsKept i (edit_row i e)
edit-kept i (edit.Blocks size) = search (changed-kept)
edit-kept i (edit.Answer r is_yes) = search (changed-kept)
edit-kept i (edit.Retract number) = search (changed-kept)

safe-kept : (i : Interview) (o : Option SafeInterview) (asked : SafeRequest)
    → IsKept o (safe_row i o asked)
safe-kept i o request.Open = search (changed-kept)
safe-kept i (Some s) (request.Answer r) = search (changed-kept)
safe-kept i (Some s) request.List = λ refused. refl
safe-kept i (Some s) (request.States count after) = λ refused. refl
safe-kept i (Some s) request.Close = λ refused. absurd (cc refused)
safe-kept i None (request.Answer r) = λ refused. refl
safe-kept i None request.List = λ refused. refl
safe-kept i None (request.States count after) = λ refused. refl
safe-kept i None request.Close = λ refused. refl

setting-kept : (s : Settings) (what : Setting) → IsKept s (setting_row s what)
setting-kept s (setting.All ratios) = search (changed-kept)
setting-kept s (setting.Item item ratios) = search (changed-kept)
setting-kept s (setting.Limits budget share) = search (changed-kept)

reply-kept : (n : ℕ) (ps : List Pupil) (item : ℕ) (right : Bool) (o : Option Pupil)
    → IsKept ps (reply_row n ps item right o)
reply-kept n ps item right None = λ refused. refl
reply-kept n ps item right (Some p) = search (changed-kept)

pupil-kept : (i : Interview) (s : Settings) (ps : List Pupil) (name : Text) (what : PupilRequest)
    → IsKept ps (pupil_row i s ps name what)
pupil-kept i s ps name pupil.Begin = search (changed-kept)
pupil-kept i s ps name pupil.Question = λ refused. refl
pupil-kept i s ps name pupil.Report = λ refused. refl
pupil-kept i s ps name (pupil.Reply item right) =
    reply-kept i.count ps item right (pupil_with ps name)
pupil-kept i s ps name pupil.Close = search (changed-kept)

-- ---- so does an effect whose response is a refusal

pub record IsStill (s : Session) (e : Effect) : Type 0 where
  pub session : e.session ≡ s
  pub stored : e.stored ≡ None

abbrev IsStillRefused : Session → Effect → Type 0
IsStillRefused s e = is_refused e.response ≡ true → IsStill s e

still : (s : Session) (r : Response) → IsStillRefused s (answers s r)
still s r refused = record { session = refl; stored = refl }

-- a session with a part that a change leaves where it is refused
with-still : (s : Session) {A : Type 0} (put : A → Session) (old : A) (c : Change A) → put old ≡ s
    → IsKept old c
    → IsStillRefused s (record { response = c.response; session = put c.next; stored = None })
with-still s put old c is kept refused =
    record { session = ap put (kept refused) ∙ is; stored = refl }

stores-still : (s : Session) (refusals : List Refusal) (name : Text) (bytes : List ℕ)
    → IsStillRefused s (stores s refusals name bytes)
stores-still s [] name bytes refused = absurd (cc refused)
stores-still s (refusal ∷ refusals) name bytes refused = record { session = refl; stored = refl }

module _ (s : Session) where
  interview-still : (c : Change Interview) → IsKept s.interview c
      → IsStillRefused s (record { response = c.response; session = record s { interview = c.next }; stored = None })
  interview-still c kept =
      with-still s (λ (i : Interview). record s { interview = i }) s.interview c refl kept

  file-still : (calls : Calls) (c : FileCommand) → IsStillRefused s (file_effect s calls c)
  file-still calls (files.StartSurmise file) = interview-still _ (search (changed-kept))
  file-still calls (files.StartBase file) = interview-still _ (search (changed-kept))
  file-still calls (files.StartRelation file) = interview-still _ (search (changed-kept))
  file-still calls (files.Save file) = stores-still s _ _ _
  file-still calls (files.Test file) = still s _
  file-still calls (files.Class file) = still s _
  file-still calls (files.SkillsAny file count after) = still s _
  file-still calls (files.SkillsAll file count after) = still s _
  file-still calls (files.Mesh left right count after) = still s _
  file-still calls (files.MeshAgree left right) = still s _

  -- all but openings and the empty command need a domain, and known words
  asked-still : (places : List ℕ) (e : Effect) → IsStillRefused s e
      → IsStillRefused s (in_domain s (unless_unnamed s places e))
  asked-still places e h =
      domain-has s (IsStillRefused s) (still s) _ (named-has s (IsStillRefused s) (still s) places e h)

  command-still : (calls : Calls) (c : Command) → IsStillRefused s (command_effect s calls c)
  unfolding command_effect
  command-still calls command.Nothing = still s _
  command-still calls (command.Opening c) =
      with-still s (λ (next : Session). next) s _ refl (opening-kept s calls c)
  command-still calls (command.File c) =
      domain-has s (IsStillRefused s) (still s) _ (file-still calls c)
  command-still calls (command.Edit c) =
      asked-still _ _ (interview-still _ (edit-kept s.interview (edit_of s.names c)))
  command-still calls (command.View c) = search (asked-still, still)
  command-still calls (command.Safe c) =
      asked-still _ _ (with-still s (λ (x : Option SafeInterview). record s { safe = x }) s.safe _
      refl (safe-kept s.interview s.safe (safe_of s.names c)))
  command-still calls (command.Setting c) =
      asked-still _ _ (with-still s (λ (x : Settings). record s { settings = x }) s.settings _
      refl (setting-kept s.settings (setting_of s.names c)))
  command-still calls (command.Pupil c) =
      asked-still _ _ (with-still s (λ (x : List Pupil). record s { pupils = x }) s.pupils _
      refl (pupil-kept s.interview s.settings s.pupils (pupil_name c) (pupil_of s.names c)))

  pub reply-still : (calls : Calls) (line : List ℕ)
      → is_refusal (reply_of (line_effect s calls line)) ≡ true
      → IsStill s (line_effect s calls line)
  reply-still calls line h =
      let e = line_effect s calls line in
      line-has s (IsStillRefused s) (still s) calls line (λ c is. command-still calls c)
      (sym (is_refusal-lines_of e.session e.response) ∙ h)

-- what stands between two lines stays
pub world-still : (w : World) (l : Marked) → is_refusal (reply_at w l) ≡ true → world_next w l ≡ w
world-still w l h =
    let still = reply-still w.session (calls_of w.folder l.failed) l.line h in
    ap₂
    (λ (s : Session) (stored : Option (Text × List ℕ)). record {
      session = s;
      folder = folder_with w.folder stored;
    }) still.session still.stored
