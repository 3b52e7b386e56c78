-- The transcript of a script over a folder, where the calls of some lines on the folder failed.
use Rattle.std.specs.Prelude.{ℕ, Bool, false, ◌||◌, List, [], ◌∷◌, ◌++◌, map, Option, Some, None}
use Rattle.std.specs.Prelude.{count_by}
use Rattle.std.specs.FinMap as map
use Rattle.ls_edge.specs.Files.{Folder}
use Rattle.ls_lines.specs.{Text, lines}
use Rattle.ls_meaning.specs.Sessions.{Session, started}
use Rattle.ls_meaning.specs.Scenes.{calls_of}
use Rattle.ls_meaning.specs.Effects.{Effect}
use Rattle.ls_meaning.specs.Replies.{line_effect, reply_of, is_refusal}

-- what stands between two lines: the session, and the files of the folder
pub record World : Type 0 where
  pub session : Session
  pub folder : Folder

-- a script begins without names
abbrev pub begun_over : Folder → World
begun_over folder = record { session = started []; folder = folder }

-- a line, marked where a call of it on the folder failed
pub record Marked : Type 0 where
  pub line : List ℕ
  pub failed : Bool

-- the lines without their marks
abbrev pub bare_lines : List Marked → List (List ℕ)
bare_lines ls = map (λ (l : Marked). l.line) ls

-- how many lines are marked
abbrev pub count_marks : List Marked → ℕ
count_marks ls = count_by (λ (l : Marked). l.failed) ls

-- lines without marks
abbrev pub unmarked : List (List ℕ) → List Marked
unmarked ls = map (λ line. record { line = line; failed = false }) ls

-- what a line does where this world stands before it
abbrev pub effect_at : World → Marked → Effect
effect_at w l = line_effect w.session (calls_of w.folder l.failed) l.line

-- the bytes of the reply to that line
abbrev pub reply_at : World → Marked → List ℕ
reply_at w l = reply_of (effect_at w l)

-- the files, where an effect stores one
abbrev pub folder_with : Folder → Option (Text × List ℕ) → Folder
folder_with folder None = folder
folder_with folder (Some file) = map.insert folder file.0 file.1

-- what stands after that line
abbrev pub world_next : World → Marked → World
world_next w l =
    record {
      session = (effect_at w l).session;
      folder =
          folder_with w.folder (effect_at w l).stored;
    }

-- the replies to the lines, joined
unfoldable pub replies : World → List Marked → List ℕ
replies w [] = []
replies w (l ∷ ls) = reply_at w l ++ replies (world_next w l) ls

-- the session and the files after the lines
unfoldable pub world_after : World → List Marked → World
world_after w [] = w
world_after w (l ∷ ls) = world_after (world_next w l) ls

-- whether some reply begins with `no `
unfoldable pub refuses : World → List Marked → Bool
refuses w [] = false
refuses w (l ∷ ls) = is_refusal (reply_at w l) || refuses (world_next w l) ls

-- the transcript where no call failed
abbrev pub transcript : Folder → List ℕ → List ℕ
transcript folder script = replies (begun_over folder) (unmarked (lines script))

-- whether some line of the script is refused, where no call failed
abbrev pub is_some_refused : Folder → List ℕ → Bool
is_some_refused folder script = refuses (begun_over folder) (unmarked (lines script))

-- the files after the script, where no call failed
abbrev pub final_folder : Folder → List ℕ → Folder
final_folder folder script = (world_after (begun_over folder) (unmarked (lines script))).folder
