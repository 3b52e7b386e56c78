-- Which commands may change the session, and which store a file.
use Rattle.std.specs.Prelude.{Bool, true, false}
use Rattle.ls_lines.specs.declared.command.Command.{Command}
use Rattle.ls_lines.specs.declared.command.Command.TheVariants as command
use Rattle.ls_lines.specs.declared.file.FileCommand.{FileCommand}
use Rattle.ls_lines.specs.declared.file.FileCommand.TheVariants as files
use Rattle.ls_lines.specs.declared.safe.SafeCommand.{SafeCommand}
use Rattle.ls_lines.specs.declared.safe.SafeCommand.TheVariants as safes
use Rattle.ls_lines.specs.declared.pupil.PupilCommand.{PupilCommand}
use Rattle.ls_lines.specs.declared.pupil.PupilCommand.TheVariants as pupils

-- `start`
abbrev pub is_start : FileCommand → Bool
is_start (files.StartSurmise file) = true
is_start (files.StartBase file) = true
is_start (files.StartRelation file) = true
is_start c = false

-- all but `safe-list` and `safe-states`
abbrev pub may_change_safe : SafeCommand → Bool
may_change_safe safes.List = false
may_change_safe (safes.States count after) = false
may_change_safe c = true

-- all but `question` and `report`
abbrev pub may_change_pupils : PupilCommand → Bool
may_change_pupils (pupils.Question name) = false
may_change_pupils (pupils.Report name) = false
may_change_pupils c = true

-- whether a command may change the session
abbrev pub may_change : Command → Bool
may_change command.Nothing = false
may_change (command.Opening c) = true
may_change (command.File c) = is_start c
may_change (command.Edit c) = true
may_change (command.View c) = false
may_change (command.Safe c) = may_change_safe c
may_change (command.Setting c) = true
may_change (command.Pupil c) = may_change_pupils c

-- ---- files

-- `save`
abbrev pub is_save : FileCommand → Bool
is_save (files.Save file) = true
is_save c = false

-- no other command stores a file
abbrev pub stores_file : Command → Bool
stores_file (command.File c) = is_save c
stores_file c = false
