-- What a line does, by the session and the folder; and its reply.
use Rattle.std.specs.Prelude.{ℕ, Bool, true, false, if◌then◌else◌, List, [], ◌∷◌, length}
use Rattle.std.specs.Prelude.{Option, Some, None, codes, nat_eq}
use Rattle.std.specs.List.{starts_with}
use Rattle.ls_lines.specs.{Text, command_of, fault_place, is_long, pupil_name, words}
use Rattle.ls_lines.specs.declared.command.Command.{Command}
use Rattle.ls_lines.specs.declared.command.Command.TheVariants as command
use Rattle.ls_lines.specs.declared.opening.OpeningCommand.{OpeningCommand}
use Rattle.ls_lines.specs.declared.opening.OpeningCommand.TheVariants as openings
use Rattle.ls_lines.specs.declared.file.FileCommand.{FileCommand}
use Rattle.ls_lines.specs.declared.file.FileCommand.TheVariants as files
use Rattle.ls_lines.specs.declared.edit.EditCommand.{EditCommand}
use Rattle.ls_lines.specs.declared.view.ViewCommand.{ViewCommand}
use Rattle.ls_lines.specs.declared.safe.SafeCommand.{SafeCommand}
use Rattle.ls_lines.specs.declared.setting.SettingCommand.{SettingCommand}
use Rattle.ls_lines.specs.declared.pupil.PupilCommand.{PupilCommand}
use Rattle.ls_meaning.specs.Texts.{bytes_of}
use Rattle.ls_meaning.specs.Sessions.{Session, has_domain}
use Rattle.ls_meaning.specs.Scenes.{Calls}
use Rattle.ls_meaning.specs.Meanings.{unnamed, edit_item_words, edit_of, view_item_words, view_of}
use Rattle.ls_meaning.specs.Meanings.{setting_item_words, setting_of, pupil_item_words, pupil_of}
use Rattle.ls_meaning.specs.Meanings.{after_of, safe_item_words, safe_of}
use Rattle.ls_meaning.specs.Lines.{lines_of}
use Rattle.ls_meaning.specs.Effects.{Effect, Change, answers, changes}
use Rattle.ls_meaning.specs.Effects.{changes_interview, changes_safe, changes_settings}
use Rattle.ls_meaning.specs.Effects.{changes_pupils}
use Rattle.ls_meaning.specs.Rows.{items_row, load_items_row, start_row, test_row, view_row}
use Rattle.ls_meaning.specs.Rows.{edit_row}
use Rattle.ls_meaning.specs.SkillRows.{skills_row}
use Rattle.ls_meaning.specs.MeshRows.{mesh_agree_row, mesh_row}
use Rattle.ls_meaning.specs.SafeRows.{safe_row}
use Rattle.ls_meaning.specs.Pupils.{setting_row, pupil_row, class_row}
use Rattle.ls_meaning.specs.Saving.{save_row, open_row}
use Rattle.ls_meaning.specs.declared.response.Refusal.TheVariants.{NoCommand, LongLine, Unnamed}
use Rattle.ls_meaning.specs.declared.request.SkillModel.TheVariants.{Disjunctive, Conjunctive}
use Rattle.ls_meaning.specs.declared.request.StartFile.TheVariants as start_file
use Rattle.ls_meaning.specs.declared.response.Response.{Response}
use Rattle.ls_meaning.specs.declared.response.Response.TheVariants.{Silence, Refused}

-- ---- topics of commands

-- a session that begins with items, or is taken up from a file
abbrev pub opening_row : Session → Calls → OpeningCommand → Change Session
opening_row s calls (openings.Items names) = items_row s names
opening_row s calls (openings.LoadItems file) = load_items_row s (calls.file file)
opening_row s calls (openings.Reopen file) = open_row s (calls.file file)

-- what a file gives or gets
abbrev pub file_effect : Session → Calls → FileCommand → Effect
file_effect s calls (files.StartSurmise file) =
    changes_interview s (start_row start_file.Surmise s (calls.file file))
file_effect s calls (files.StartBase file) =
    changes_interview s (start_row start_file.Base s (calls.file file))
file_effect s calls (files.StartRelation file) =
    changes_interview s (start_row start_file.Relation s (calls.file file))
file_effect s calls (files.Test file) = answers s (test_row s.names (calls.file file))
file_effect s calls (files.Class file) =
    answers s (class_row s.interview s.settings s.names (calls.file file))
file_effect s calls (files.Save file) = save_row s calls.failed file
file_effect s calls (files.SkillsAny file count after) =
    answers s (skills_row Disjunctive s.names (calls.file file) count
    (after_of (length s.names) after))
file_effect s calls (files.SkillsAll file count after) =
    answers s (skills_row Conjunctive s.names (calls.file file) count
    (after_of (length s.names) after))
file_effect s calls (files.Mesh left right count after) =
    answers s (mesh_row s.names (calls.file left) (calls.file right) count
    (after_of (length s.names) after))
file_effect s calls (files.MeshAgree left right) =
    answers s (mesh_agree_row s.names (calls.file left) (calls.file right))

-- an effect, where each word that must name an item does; or else the place of the first that
-- doesn't
abbrev pub unless_unnamed : Session → List ℕ → Effect → Effect
unless_unnamed s [] effect = effect
unless_unnamed s (place ∷ places) effect = answers s (Refused (Unnamed place))

-- a change of the interview
abbrev pub edit_effect : Session → EditCommand → Effect
edit_effect s c = unless_unnamed s (unnamed s.names (edit_item_words c))
    (changes_interview s (edit_row s.interview (edit_of s.names c)))

-- a look at the interview
abbrev pub view_effect : Session → ViewCommand → Effect
view_effect s c = unless_unnamed s (unnamed s.names (view_item_words c))
    (answers s (view_row s.interview (view_of s.names c)))

-- what is asked of the safe interview
abbrev pub safe_effect : Session → SafeCommand → Effect
safe_effect s c = unless_unnamed s (unnamed s.names (safe_item_words c))
    (changes_safe s (safe_row s.interview s.safe (safe_of s.names c)))

-- a change of the settings
abbrev pub setting_effect : Session → SettingCommand → Effect
setting_effect s c = unless_unnamed s (unnamed s.names (setting_item_words c))
    (changes_settings s (setting_row s.settings (setting_of s.names c)))

-- what is asked of a pupil
abbrev pub pupil_effect : Session → PupilCommand → Effect
pupil_effect s c = unless_unnamed s (unnamed s.names (pupil_item_words c))
    (changes_pupils s
    (pupil_row s.interview s.settings s.pupils (pupil_name c) (pupil_of s.names c)))

-- ---- commands and lines

-- an effect, where a domain stands; or else place 0
abbrev pub in_domain : Session → Effect → Effect
in_domain s effect = if has_domain s then effect else answers s (Refused (Unnamed 0))

-- what a command does: all but openings and the empty command need a domain
unfoldable pub command_effect : Session → Calls → Command → Effect
command_effect s calls command.Nothing = answers s Silence
command_effect s calls (command.Opening c) = changes (opening_row s calls c)
command_effect s calls (command.File c) = in_domain s (file_effect s calls c)
command_effect s calls (command.Edit c) = in_domain s (edit_effect s c)
command_effect s calls (command.View c) = in_domain s (view_effect s c)
command_effect s calls (command.Safe c) = in_domain s (safe_effect s c)
command_effect s calls (command.Setting c) = in_domain s (setting_effect s c)
command_effect s calls (command.Pupil c) = in_domain s (pupil_effect s c)

-- words, which may be no command
abbrev pub words_effect : Session → Calls → List Text → Option Command → Effect
words_effect s calls ws None = answers s (Refused (NoCommand (fault_place ws)))
words_effect s calls ws (Some c) = command_effect s calls c

-- what a line does; one that is too long is refused unread
unfoldable pub line_effect : Session → Calls → List ℕ → Effect
line_effect s calls line =
    if is_long line then answers s (Refused (LongLine (length line)))
    else words_effect s calls (words line) (command_of (words line))

-- what is written
abbrev pub reply_of : Effect → List ℕ
reply_of e = bytes_of (lines_of e.session e.response)

-- whether a reply begins with `no `
abbrev pub is_refusal : List ℕ → Bool
is_refusal bytes = starts_with nat_eq bytes (codes "no ")

-- whether a response is a refusal; a law says that it is where its reply begins so
abbrev pub is_refused : Response → Bool
is_refused (Refused refusal) = true
is_refused response = false
