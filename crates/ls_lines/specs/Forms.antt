-- The forms of commands: ONE TABLE, from which a line is read (`Commands`), a command is printed
-- (`Printing`) and a fault has its place. A form is named behind its topic, as `edit.Yes`, and a
-- command behind the plural, as `edits.Yes`.
use Rattle.std.specs.Prelude.{List, [], ◌∷◌, ◌++◌, map, Some, None}
use Rattle.ls_cutting.specs.Lines.{Text}
use Rattle.ls_cutting.specs.Kinds.{most_counted}
use Rattle.ls_lines.specs.Given.{all, one, count, number, is_right}
use Rattle.ls_lines.specs.Operands.{Filling, Word, Words, Number, Right}
use Rattle.ls_cutting.specs.declared.kind.Kind.TheVariants as kind
use Rattle.ls_lines.specs.declared.keyword.Keyword.TheVariants as word
use Rattle.ls_lines.specs.declared.part.Part.{Part}
use Rattle.ls_lines.specs.declared.part.Part.TheVariants.{Fixed, One, Many}
use Rattle.ls_lines.specs.declared.form.Form.{Form}
use Rattle.ls_lines.specs.declared.form.Form.TheVariants as form
use Rattle.ls_lines.specs.declared.command.Command.{Command}
use Rattle.ls_lines.specs.declared.command.Command.TheVariants as commands
use Rattle.ls_lines.specs.declared.opening.OpeningForm.{OpeningForm}
use Rattle.ls_lines.specs.declared.opening.OpeningForm.TheVariants as opening
use Rattle.ls_lines.specs.declared.opening.OpeningCommand.{OpeningCommand}
use Rattle.ls_lines.specs.declared.opening.OpeningCommand.TheVariants as openings
use Rattle.ls_lines.specs.declared.file.FileForm.{FileForm}
use Rattle.ls_lines.specs.declared.file.FileForm.TheVariants as file
use Rattle.ls_lines.specs.declared.file.FileCommand.{FileCommand}
use Rattle.ls_lines.specs.declared.file.FileCommand.TheVariants as files
use Rattle.ls_lines.specs.declared.edit.EditForm.{EditForm}
use Rattle.ls_lines.specs.declared.edit.EditForm.TheVariants as edit
use Rattle.ls_lines.specs.declared.edit.EditCommand.{EditCommand}
use Rattle.ls_lines.specs.declared.edit.EditCommand.TheVariants as edits
use Rattle.ls_lines.specs.declared.view.ViewForm.{ViewForm}
use Rattle.ls_lines.specs.declared.view.ViewForm.TheVariants as view
use Rattle.ls_lines.specs.declared.view.ViewCommand.{ViewCommand}
use Rattle.ls_lines.specs.declared.view.ViewCommand.TheVariants as views
use Rattle.ls_lines.specs.declared.safe.SafeForm.{SafeForm}
use Rattle.ls_lines.specs.declared.safe.SafeForm.TheVariants as safe
use Rattle.ls_lines.specs.declared.safe.SafeCommand.{SafeCommand}
use Rattle.ls_lines.specs.declared.safe.SafeCommand.TheVariants as safes
use Rattle.ls_lines.specs.declared.setting.SettingForm.{SettingForm}
use Rattle.ls_lines.specs.declared.setting.SettingForm.TheVariants as setting
use Rattle.ls_lines.specs.declared.setting.SettingCommand.{SettingCommand}
use Rattle.ls_lines.specs.declared.setting.SettingCommand.TheVariants as settings
use Rattle.ls_lines.specs.declared.pupil.PupilForm.{PupilForm}
use Rattle.ls_lines.specs.declared.pupil.PupilForm.TheVariants as pupil
use Rattle.ls_lines.specs.declared.pupil.PupilCommand.{PupilCommand}
use Rattle.ls_lines.specs.declared.pupil.PupilCommand.TheVariants as pupils

-- ---- the topics: of each its forms, the parts of their lines, the commands that they make of the
-- words at the parts, and the way back: the form of a command, and what stands at those of its
-- parts that are no fixed words

-- ---- opening a session

abbrev pub opening_forms : List OpeningForm
opening_forms = opening.Items ∷ opening.LoadItems ∷ opening.Reopen ∷ []

abbrev pub opening_parts : OpeningForm → List Part
opening_parts opening.Items = Fixed word.Items ∷ Many kind.Name ∷ []
opening_parts opening.LoadItems = Fixed word.LoadItems ∷ One kind.File ∷ []
opening_parts opening.Reopen = Fixed word.Open ∷ One kind.File ∷ []

abbrev pub opening_command : OpeningForm → List (List Text) → OpeningCommand
opening_command opening.Items given = openings.Items (all given 1)
opening_command opening.LoadItems given = openings.LoadItems (one given 1)
opening_command opening.Reopen given = openings.Reopen (one given 1)

abbrev pub opening_spelled_as : OpeningCommand → OpeningForm × List Filling
opening_spelled_as (openings.Items names) = (opening.Items, Words names ∷ [])
opening_spelled_as (openings.LoadItems file) = (opening.LoadItems, Word file ∷ [])
opening_spelled_as (openings.Reopen file) = (opening.Reopen, Word file ∷ [])

-- ---- reading and storing files

abbrev pub file_forms : List FileForm
file_forms =
    file.StartSurmise ∷ file.StartBase ∷ file.StartRelation ∷ file.Test ∷ file.Class ∷ file.Save ∷
    file.SkillsAny ∷ file.SkillsAnyAfter ∷ file.SkillsAll ∷ file.SkillsAllAfter ∷
    file.Mesh ∷ file.MeshAfter ∷ file.MeshAgree ∷ []

abbrev pub file_parts : FileForm → List Part
file_parts file.StartSurmise = Fixed word.Start ∷ Fixed word.Surmise ∷ One kind.File ∷ []
file_parts file.StartBase = Fixed word.Start ∷ Fixed word.Base ∷ One kind.File ∷ []
file_parts file.StartRelation = Fixed word.Start ∷ Fixed word.Relation ∷ One kind.File ∷ []
file_parts file.Test = Fixed word.Test ∷ One kind.File ∷ []
file_parts file.Class = Fixed word.Class ∷ One kind.File ∷ []
file_parts file.Save = Fixed word.Save ∷ One kind.File ∷ []
file_parts file.SkillsAny =
    Fixed word.Skills ∷ Fixed word.Any ∷ One kind.File ∷ One kind.Count ∷ []
file_parts file.SkillsAnyAfter =
    Fixed word.Skills ∷ Fixed word.Any ∷ One kind.File ∷ One kind.Count
    ∷ Fixed word.After ∷ One kind.Cursor ∷ []
file_parts file.SkillsAll =
    Fixed word.Skills ∷ Fixed word.All ∷ One kind.File ∷ One kind.Count ∷ []
file_parts file.SkillsAllAfter =
    Fixed word.Skills ∷ Fixed word.All ∷ One kind.File ∷ One kind.Count
    ∷ Fixed word.After ∷ One kind.Cursor ∷ []
file_parts file.Mesh = Fixed word.Mesh ∷ One kind.File ∷ One kind.File ∷ One kind.Count ∷ []
file_parts file.MeshAfter =
    Fixed word.Mesh ∷ One kind.File ∷ One kind.File ∷ One kind.Count
    ∷ Fixed word.After ∷ One kind.Cursor ∷ []
file_parts file.MeshAgree = Fixed word.MeshAgree ∷ One kind.File ∷ One kind.File ∷ []

abbrev pub file_command : FileForm → List (List Text) → FileCommand
file_command file.StartSurmise given = files.StartSurmise (one given 2)
file_command file.StartBase given = files.StartBase (one given 2)
file_command file.StartRelation given = files.StartRelation (one given 2)
file_command file.Test given = files.Test (one given 1)
file_command file.Class given = files.Class (one given 1)
file_command file.Save given = files.Save (one given 1)
file_command file.SkillsAny given = files.SkillsAny (one given 2) (count given 3) None
file_command file.SkillsAnyAfter given =
    files.SkillsAny (one given 2) (count given 3) (Some (one given 5))
file_command file.SkillsAll given = files.SkillsAll (one given 2) (count given 3) None
file_command file.SkillsAllAfter given =
    files.SkillsAll (one given 2) (count given 3) (Some (one given 5))
file_command file.Mesh given = files.Mesh (one given 1) (one given 2) (count given 3) None
file_command file.MeshAfter given =
    files.Mesh (one given 1) (one given 2) (count given 3) (Some (one given 5))
file_command file.MeshAgree given = files.MeshAgree (one given 1) (one given 2)

abbrev pub file_spelled_as : FileCommand → FileForm × List Filling
file_spelled_as (files.StartSurmise name) = (file.StartSurmise, Word name ∷ [])
file_spelled_as (files.StartBase name) = (file.StartBase, Word name ∷ [])
file_spelled_as (files.StartRelation name) = (file.StartRelation, Word name ∷ [])
file_spelled_as (files.Test name) = (file.Test, Word name ∷ [])
file_spelled_as (files.Class name) = (file.Class, Word name ∷ [])
file_spelled_as (files.Save name) = (file.Save, Word name ∷ [])
file_spelled_as (files.SkillsAny name count None) = (file.SkillsAny, Word name ∷ Number count ∷ [])
file_spelled_as (files.SkillsAny name count (Some cursor)) =
    (file.SkillsAnyAfter, Word name ∷ Number count ∷ Word cursor ∷ [])
file_spelled_as (files.SkillsAll name count None) = (file.SkillsAll, Word name ∷ Number count ∷ [])
file_spelled_as (files.SkillsAll name count (Some cursor)) =
    (file.SkillsAllAfter, Word name ∷ Number count ∷ Word cursor ∷ [])
file_spelled_as (files.Mesh left right count None) =
    (file.Mesh, Word left ∷ Word right ∷ Number count ∷ [])
file_spelled_as (files.Mesh left right count (Some cursor)) =
    (file.MeshAfter, Word left ∷ Word right ∷ Number count ∷ Word cursor ∷ [])
file_spelled_as (files.MeshAgree left right) = (file.MeshAgree, Word left ∷ Word right ∷ [])

-- ---- changing the interview

abbrev pub edit_forms : List EditForm
edit_forms = edit.Blocks ∷ edit.Yes ∷ edit.No ∷ edit.Retract ∷ []

abbrev pub edit_parts : EditForm → List Part
edit_parts edit.Blocks = Fixed word.Blocks ∷ One kind.Number ∷ []
edit_parts edit.Yes = Fixed word.Yes ∷ Many kind.Item ∷ Fixed word.Colon ∷ One kind.Item ∷ []
edit_parts edit.No = Fixed word.No ∷ Many kind.Item ∷ Fixed word.Colon ∷ One kind.Item ∷ []
edit_parts edit.Retract = Fixed word.Retract ∷ One kind.Number ∷ []

abbrev pub edit_command : EditForm → List (List Text) → EditCommand
edit_command edit.Blocks given = edits.Blocks (number given 1)
edit_command edit.Yes given = edits.Yes (all given 1) (one given 3)
edit_command edit.No given = edits.No (all given 1) (one given 3)
edit_command edit.Retract given = edits.Retract (number given 1)

abbrev pub edit_spelled_as : EditCommand → EditForm × List Filling
edit_spelled_as (edits.Blocks size) = (edit.Blocks, Number size ∷ [])
edit_spelled_as (edits.Yes names item) = (edit.Yes, Words names ∷ Word item ∷ [])
edit_spelled_as (edits.No names item) = (edit.No, Words names ∷ Word item ∷ [])
edit_spelled_as (edits.Retract number) = (edit.Retract, Number number ∷ [])

-- ---- showing something of the interview

abbrev pub view_forms : List ViewForm
view_forms =
    view.Known ∷ view.Ask ∷ view.States ∷ view.StatesUpTo ∷ view.StatesAfter ∷ view.Base ∷
    view.Surmise ∷ view.Learning ∷ view.Project ∷ view.ProjectAfter ∷ view.ProjectBase ∷
    view.Fringes ∷ view.StateOf ∷ view.Paths ∷ view.PathsAfter ∷ view.SkillMap ∷ view.Relation ∷ []

abbrev pub view_parts : ViewForm → List Part
view_parts view.Known = Fixed word.Known ∷ Many kind.Item ∷ Fixed word.Colon ∷ One kind.Item ∷ []
view_parts view.Ask = Fixed word.Ask ∷ []
view_parts view.States = Fixed word.States ∷ []
view_parts view.StatesUpTo = Fixed word.States ∷ One kind.Count ∷ []
view_parts view.StatesAfter =
    Fixed word.States ∷ One kind.Count ∷ Fixed word.After ∷ One kind.Cursor ∷ []
view_parts view.Base = Fixed word.Base ∷ []
view_parts view.Surmise = Fixed word.Surmise ∷ []
view_parts view.Learning = Fixed word.Learning ∷ []
view_parts view.Project =
    Fixed word.Project ∷ One kind.Count ∷ Fixed word.Colon ∷ Many kind.Item ∷ []
view_parts view.ProjectAfter =
    Fixed word.Project ∷ One kind.Count ∷ Fixed word.After ∷ One kind.Cursor
    ∷ Fixed word.Colon ∷ Many kind.Item ∷ []
view_parts view.ProjectBase = Fixed word.ProjectBase ∷ Many kind.Item ∷ []
view_parts view.Fringes = Fixed word.Fringes ∷ Many kind.Item ∷ []
view_parts view.StateOf = Fixed word.StateOf ∷ Many kind.Item ∷ Fixed word.Bar ∷ Many kind.Item ∷ []
view_parts view.Paths = Fixed word.Paths ∷ One kind.Count ∷ []
view_parts view.PathsAfter =
    Fixed word.Paths ∷ One kind.Count ∷ Fixed word.After ∷ Many kind.Item ∷ []
view_parts view.SkillMap = Fixed word.SkillMap ∷ []
view_parts view.Relation = Fixed word.Relation ∷ []

abbrev pub view_command : ViewForm → List (List Text) → ViewCommand
view_command view.Known given = views.Known (all given 1) (one given 3)
view_command view.Ask given = views.Ask
view_command view.States given = views.States most_counted None
view_command view.StatesUpTo given = views.States (count given 1) None
view_command view.StatesAfter given = views.States (count given 1) (Some (one given 3))
view_command view.Base given = views.Base
view_command view.Surmise given = views.Surmise
view_command view.Learning given = views.Learning
view_command view.Project given = views.Project (count given 1) None (all given 3)
view_command view.ProjectAfter given =
    views.Project (count given 1) (Some (one given 3)) (all given 5)
view_command view.ProjectBase given = views.ProjectBase (all given 1)
view_command view.Fringes given = views.Fringes (all given 1)
view_command view.StateOf given = views.StateOf (all given 1) (all given 3)
view_command view.Paths given = views.Paths (count given 1) None
view_command view.PathsAfter given = views.Paths (count given 1) (Some (all given 3))
view_command view.SkillMap given = views.SkillMap
view_command view.Relation given = views.Relation

abbrev pub view_spelled_as : ViewCommand → ViewForm × List Filling
view_spelled_as (views.Known names item) = (view.Known, Words names ∷ Word item ∷ [])
view_spelled_as views.Ask = (view.Ask, [])
view_spelled_as (views.States count None) = (view.StatesUpTo, Number count ∷ [])
view_spelled_as (views.States count (Some cursor)) =
    (view.StatesAfter, Number count ∷ Word cursor ∷ [])
view_spelled_as views.Base = (view.Base, [])
view_spelled_as views.Surmise = (view.Surmise, [])
view_spelled_as views.Learning = (view.Learning, [])
view_spelled_as (views.Project count None names) = (view.Project, Number count ∷ Words names ∷ [])
view_spelled_as (views.Project count (Some cursor) names) =
    (view.ProjectAfter, Number count ∷ Word cursor ∷ Words names ∷ [])
view_spelled_as (views.ProjectBase names) = (view.ProjectBase, Words names ∷ [])
view_spelled_as (views.Fringes names) = (view.Fringes, Words names ∷ [])
view_spelled_as (views.StateOf inner outer) = (view.StateOf, Words inner ∷ Words outer ∷ [])
view_spelled_as (views.Paths count None) = (view.Paths, Number count ∷ [])
view_spelled_as (views.Paths count (Some path)) = (view.PathsAfter, Number count ∷ Words path ∷ [])
view_spelled_as views.SkillMap = (view.SkillMap, [])
view_spelled_as views.Relation = (view.Relation, [])

-- ---- the safe interview

abbrev pub safe_forms : List SafeForm
safe_forms =
    safe.Open ∷ safe.Answer ∷ safe.List ∷ safe.States ∷ safe.StatesAfter ∷ safe.Close ∷ []

abbrev pub safe_parts : SafeForm → List Part
safe_parts safe.Open = Fixed word.SafeOpen ∷ []
safe_parts safe.Answer = Fixed word.Safe ∷ Many kind.Item ∷ Fixed word.Colon ∷ One kind.Item ∷ []
safe_parts safe.List = Fixed word.SafeList ∷ []
safe_parts safe.States = Fixed word.SafeStates ∷ One kind.Count ∷ []
safe_parts safe.StatesAfter =
    Fixed word.SafeStates ∷ One kind.Count ∷ Fixed word.After ∷ One kind.Cursor ∷ []
safe_parts safe.Close = Fixed word.SafeClose ∷ []

abbrev pub safe_command : SafeForm → List (List Text) → SafeCommand
safe_command safe.Open given = safes.Open
safe_command safe.Answer given = safes.Answer (all given 1) (one given 3)
safe_command safe.List given = safes.List
safe_command safe.States given = safes.States (count given 1) None
safe_command safe.StatesAfter given = safes.States (count given 1) (Some (one given 3))
safe_command safe.Close given = safes.Close

abbrev pub safe_spelled_as : SafeCommand → SafeForm × List Filling
safe_spelled_as safes.Open = (safe.Open, [])
safe_spelled_as (safes.Answer names item) = (safe.Answer, Words names ∷ Word item ∷ [])
safe_spelled_as safes.List = (safe.List, [])
safe_spelled_as (safes.States count None) = (safe.States, Number count ∷ [])
safe_spelled_as (safes.States count (Some cursor)) =
    (safe.StatesAfter, Number count ∷ Word cursor ∷ [])
safe_spelled_as safes.Close = (safe.Close, [])

-- ---- setting what an assessment goes by

abbrev pub setting_forms : List SettingForm
setting_forms =
    setting.OddsAll ∷ setting.OddsItem ∷ setting.RatioAll ∷ setting.RatioItem ∷ setting.Limits ∷
    []

abbrev pub setting_parts : SettingForm → List Part
setting_parts setting.OddsAll = Fixed word.Odds ∷ One kind.Number ∷ One kind.Number ∷ []
setting_parts setting.OddsItem =
    Fixed word.Odds ∷ One kind.Item ∷ One kind.Number ∷ One kind.Number ∷ []
setting_parts setting.RatioAll =
    Fixed word.Ratio ∷ One kind.Number ∷ One kind.Number ∷ One kind.Number ∷ One kind.Number ∷ []
setting_parts setting.RatioItem =
    Fixed word.Ratio ∷ One kind.Item ∷ One kind.Number ∷ One kind.Number ∷ One kind.Number
    ∷ One kind.Number ∷ []
setting_parts setting.Limits = Fixed word.Limits ∷ One kind.Number ∷ One kind.Number ∷ []

abbrev pub setting_command : SettingForm → List (List Text) → SettingCommand
setting_command setting.OddsAll given = settings.OddsAll (number given 1) (number given 2)
setting_command setting.OddsItem given =
    settings.OddsItem (one given 1) (number given 2) (number given 3)
setting_command setting.RatioAll given =
    settings.RatioAll (number given 1) (number given 2) (number given 3) (number given 4)
setting_command setting.RatioItem given =
    settings.RatioItem (one given 1) (number given 2) (number given 3)
    (number given 4) (number given 5)
setting_command setting.Limits given = settings.Limits (number given 1) (number given 2)

abbrev pub setting_spelled_as : SettingCommand → SettingForm × List Filling
setting_spelled_as (settings.OddsAll right wrong) =
    (setting.OddsAll, Number right ∷ Number wrong ∷ [])
setting_spelled_as (settings.OddsItem item right wrong) =
    (setting.OddsItem, Word item ∷ Number right ∷ Number wrong ∷ [])
setting_spelled_as (settings.RatioAll right_a right_b wrong_a wrong_b) =
    (setting.RatioAll, Number right_a ∷ Number right_b ∷ Number wrong_a ∷ Number wrong_b ∷ [])
setting_spelled_as (settings.RatioItem item right_a right_b wrong_a wrong_b) = (
  setting.RatioItem,
  Word item ∷ Number right_a ∷ Number right_b ∷ Number wrong_a ∷ Number wrong_b ∷ [],
)
setting_spelled_as (settings.Limits budget share) =
    (setting.Limits, Number budget ∷ Number share ∷ [])

-- ---- assessing pupils

abbrev pub pupil_forms : List PupilForm
pupil_forms = pupil.Pupil ∷ pupil.Question ∷ pupil.Reply ∷ pupil.Report ∷ pupil.Close ∷ []

abbrev pub pupil_parts : PupilForm → List Part
pupil_parts pupil.Pupil = Fixed word.Pupil ∷ One kind.Name ∷ []
pupil_parts pupil.Question = Fixed word.Question ∷ One kind.Name ∷ []
pupil_parts pupil.Reply = Fixed word.Reply ∷ One kind.Name ∷ One kind.Item ∷ One kind.Right ∷ []
pupil_parts pupil.Report = Fixed word.Report ∷ One kind.Name ∷ []
pupil_parts pupil.Close = Fixed word.Close ∷ One kind.Name ∷ []

abbrev pub pupil_command : PupilForm → List (List Text) → PupilCommand
pupil_command pupil.Pupil given = pupils.Pupil (one given 1)
pupil_command pupil.Question given = pupils.Question (one given 1)
pupil_command pupil.Reply given = pupils.Reply (one given 1) (one given 2) (is_right given 3)
pupil_command pupil.Report given = pupils.Report (one given 1)
pupil_command pupil.Close given = pupils.Close (one given 1)

abbrev pub pupil_spelled_as : PupilCommand → PupilForm × List Filling
pupil_spelled_as (pupils.Pupil name) = (pupil.Pupil, Word name ∷ [])
pupil_spelled_as (pupils.Question name) = (pupil.Question, Word name ∷ [])
pupil_spelled_as (pupils.Reply name item right) =
    (pupil.Reply, Word name ∷ Word item ∷ Right right ∷ [])
pupil_spelled_as (pupils.Report name) = (pupil.Report, Word name ∷ [])
pupil_spelled_as (pupils.Close name) = (pupil.Close, Word name ∷ [])

-- the name of the pupil that the command is about
abbrev pub pupil_name : PupilCommand → Text
pupil_name (pupils.Pupil name) = name
pupil_name (pupils.Question name) = name
pupil_name (pupils.Reply name item right) = name
pupil_name (pupils.Report name) = name
pupil_name (pupils.Close name) = name

-- ---- all commands

-- all forms; the order is of no account, since no line has two of them (the law
-- `forms_are_told_apart`)
unfoldable pub forms : List Form
forms =
    form.Nothing ∷ map form.Opening opening_forms ++ map form.File file_forms
    ++ map form.Edit edit_forms ++ map form.View view_forms ++ map form.Safe safe_forms
    ++ map form.Setting setting_forms ++ map form.Pupil pupil_forms

-- the parts of a form: a fixed word, one word of a kind, or any number of words of a kind
unfoldable pub parts : Form → List Part
parts form.Nothing = []
parts (form.Opening f) = opening_parts f
parts (form.File f) = file_parts f
parts (form.Edit f) = edit_parts f
parts (form.View f) = view_parts f
parts (form.Safe f) = safe_parts f
parts (form.Setting f) = setting_parts f
parts (form.Pupil f) = pupil_parts f

-- the command of a form with the given words at its parts
unfoldable pub command : Form → List (List Text) → Command
command form.Nothing given = commands.Nothing
command (form.Opening f) given = commands.Opening (opening_command f given)
command (form.File f) given = commands.File (file_command f given)
command (form.Edit f) given = commands.Edit (edit_command f given)
command (form.View f) given = commands.View (view_command f given)
command (form.Safe f) given = commands.Safe (safe_command f given)
command (form.Setting f) given = commands.Setting (setting_command f given)
command (form.Pupil f) given = commands.Pupil (pupil_command f given)

-- the form by which a command is printed, and what stands at those of its parts that are no fixed
-- words; `states` has its count
unfoldable pub spelled_as : Command → Form × List Filling
spelled_as commands.Nothing = (form.Nothing, [])
spelled_as (commands.Opening c) = let s = opening_spelled_as c in (form.Opening s.0, s.1)
spelled_as (commands.File c) = let s = file_spelled_as c in (form.File s.0, s.1)
spelled_as (commands.Edit c) = let s = edit_spelled_as c in (form.Edit s.0, s.1)
spelled_as (commands.View c) = let s = view_spelled_as c in (form.View s.0, s.1)
spelled_as (commands.Safe c) = let s = safe_spelled_as c in (form.Safe s.0, s.1)
spelled_as (commands.Setting c) = let s = setting_spelled_as c in (form.Setting s.0, s.1)
spelled_as (commands.Pupil c) = let s = pupil_spelled_as c in (form.Pupil s.0, s.1)
