-- What a command's words mean, where a list of names gives the items.
use Rattle.std.specs.Prelude.{ℕ, ◌+◌, ◌<◌, suc, true, false, not, List, [], ◌∷◌, ◌++◌, map, filter}
use Rattle.std.specs.Prelude.{length}
use Rattle.std.specs.Prelude.{Option, Some, None, option_map, Result, Ok, Err, ⊤}
use Rattle.std.specs.Option.{ForSome}
use Rattle.ls_set.specs.{IsWithin, Items, full, read_cursor}
use Rattle.ls_set.specs.declared.cursor.CursorFault.{CursorFault}
use Rattle.ls_set.specs.declared.query.Query.{Query}
use Rattle.ls_lines.specs.{Text}
use Rattle.ls_lines.specs.declared.edit.EditCommand.{EditCommand}
use Rattle.ls_lines.specs.declared.edit.EditCommand.TheVariants as edits
use Rattle.ls_lines.specs.declared.view.ViewCommand.{ViewCommand}
use Rattle.ls_lines.specs.declared.view.ViewCommand.TheVariants as views
use Rattle.ls_lines.specs.declared.safe.SafeCommand.{SafeCommand}
use Rattle.ls_lines.specs.declared.safe.SafeCommand.TheVariants as safes
use Rattle.ls_lines.specs.declared.setting.SettingCommand.{SettingCommand}
use Rattle.ls_lines.specs.declared.setting.SettingCommand.TheVariants as settings
use Rattle.ls_lines.specs.declared.pupil.PupilCommand.{PupilCommand}
use Rattle.ls_lines.specs.declared.pupil.PupilCommand.TheVariants as pupils
use Rattle.ls_domain.specs.Meanings.{is_named, item_of, items_of}
use Rattle.ls_theory.specs.{odds}
use Rattle.ls_theory.specs.declared.ratio.Ratios.{Ratios}
use Rattle.ls_meaning.specs.declared.request.View.{View}
use Rattle.ls_meaning.specs.declared.request.View.TheVariants as view
use Rattle.ls_meaning.specs.declared.request.Edit.{Edit}
use Rattle.ls_meaning.specs.declared.request.Edit.TheVariants as edit
use Rattle.ls_meaning.specs.declared.request.SafeRequest.{SafeRequest}
use Rattle.ls_meaning.specs.declared.request.SafeRequest.TheVariants as safe
use Rattle.ls_meaning.specs.declared.request.Setting.{Setting}
use Rattle.ls_meaning.specs.declared.request.Setting.TheVariants as setting
use Rattle.ls_meaning.specs.declared.request.PupilRequest.{PupilRequest}
use Rattle.ls_meaning.specs.declared.request.PupilRequest.TheVariants as pupil

-- ---- words that must name an item

-- words with their places, counted from p on
abbrev pub placed : ℕ → List Text → List (ℕ × Text)
placed p [] = []
placed p (w ∷ ws) = (p, w) ∷ placed (suc p) ws

-- the places of those of some words that name no item
abbrev pub unnamed : List Text → List (ℕ × Text) → List ℕ
unnamed names ws = map (λ w. w.0) (filter (λ w. not (is_named names w.1)) ws)

-- those of a query: its names, and behind a colon its item
abbrev pub query_words : List Text → Text → List (ℕ × Text)
query_words names item = placed 2 names ++ (length names + 3, item) ∷ []

-- the query of these words
abbrev pub query_of : List Text → List Text → Text → Query
query_of names ws w = record { a = items_of names ws; q = item_of names w }

-- ---- a change of the interview

-- the words that must name an item, with their places in the line
abbrev pub edit_item_words : EditCommand → List (ℕ × Text)
edit_item_words (edits.Yes names item) = query_words names item
edit_item_words (edits.No names item) = query_words names item
edit_item_words c = []

-- what is asked on the named items
abbrev pub edit_of : List Text → EditCommand → Edit
edit_of names (edits.Blocks size) = edit.Blocks size
edit_of names (edits.Yes ws w) = edit.Answer (query_of names ws w) true
edit_of names (edits.No ws w) = edit.Answer (query_of names ws w) false
edit_of names (edits.Retract number) = edit.Retract number

-- ---- a look at the interview

-- the words of two sets, with a bar between
abbrev pub sets_words : List Text → List Text → List (ℕ × Text)
sets_words inner outer = placed 2 inner ++ placed (length inner + 3) outer

-- those of an order, behind `after`
abbrev pub order_words : Option (List Text) → List (ℕ × Text)
order_words None = []
order_words (Some names) = placed 4 names

-- the place of a projection's first name: behind the count, the cursor, if there is one, and the
-- colon
abbrev pub projected_place : Option Text → ℕ
projected_place None = 4
projected_place (Some w) = 6

-- the words that must name an item, with their places in the line
abbrev pub view_item_words : ViewCommand → List (ℕ × Text)
view_item_words (views.Known names item) = query_words names item
view_item_words (views.Project count after names) = placed (projected_place after) names
view_item_words (views.ProjectBase names) = placed 2 names
view_item_words (views.Fringes names) = placed 2 names
view_item_words (views.StateOf inner outer) = sets_words inner outer
view_item_words (views.Paths count after) = order_words after
view_item_words c = []

-- the set of a cursor that is given, or the fault of its text
abbrev pub some_read : Result Items CursorFault → Result (Option Items) CursorFault
some_read (Ok k) = Ok (Some k)
some_read (Err fault) = Err fault

-- the set of the cursor after which a page begins, where there is one
abbrev pub after_of : ℕ → Option Text → Result (Option Items) CursorFault
after_of n None = Ok None
after_of n (Some w) = some_read (read_cursor n w)

-- what is asked on the named items
abbrev pub view_of : List Text → ViewCommand → View
view_of names (views.Known ws w) = view.Known (query_of names ws w)
view_of names views.Ask = view.Ask
view_of names (views.States count after) = view.States count (after_of (length names) after)
view_of names views.Base = view.Base
view_of names views.Surmise = view.Surmise
view_of names views.Learning = view.Learning
view_of names (views.Project count after ws) =
    view.Project (items_of names ws) count (after_of (length names) after)
view_of names (views.ProjectBase ws) = view.ProjectBase (items_of names ws)
view_of names (views.Fringes ws) = view.Fringes (items_of names ws)
view_of names (views.StateOf inner outer) =
    view.StateOf (items_of names inner) (items_of names outer)
view_of names (views.Paths count after) = view.Paths count (option_map (map (item_of names)) after)
view_of names views.SkillMap = view.SkillMap
view_of names views.Relation = view.Relation

-- the set of a cursor, if there is one, is one of n items
abbrev pub IsAfterOn : ℕ → Result (Option Items) CursorFault → Type 0
IsAfterOn n (Ok after) = ForSome after (λ k. IsWithin k (full n))
IsAfterOn n (Err fault) = ⊤

-- the sets of what is asked are sets of n items
abbrev pub IsViewOn : ℕ → View → Type 0
IsViewOn n (view.States count after) = IsAfterOn n after
IsViewOn n (view.Project part count after) = IsWithin part (full n) × IsAfterOn n after
IsViewOn n (view.ProjectBase part) = IsWithin part (full n)
IsViewOn n (view.Fringes k) = IsWithin k (full n)
IsViewOn n (view.StateOf inner outer) = IsWithin inner (full n) × IsWithin outer (full n)
IsViewOn n v = ⊤

-- ---- what is asked of the safe interview

-- the words that must name an item, with their places in the line
abbrev pub safe_item_words : SafeCommand → List (ℕ × Text)
safe_item_words (safes.Answer names item) = query_words names item
safe_item_words c = []

-- what is asked on the named items
abbrev pub safe_of : List Text → SafeCommand → SafeRequest
safe_of names safes.Open = safe.Open
safe_of names (safes.Answer ws w) = safe.Answer (query_of names ws w)
safe_of names safes.List = safe.List
safe_of names (safes.States count after) = safe.States count (after_of (length names) after)
safe_of names safes.Close = safe.Close

-- the set of the cursor of what is asked is one of n items
abbrev pub IsSafeOn : ℕ → SafeRequest → Type 0
IsSafeOn n (safe.States count after) = IsAfterOn n after
IsSafeOn n asked = ⊤

-- ---- a change of the settings

-- odds for a right and for a wrong reply
abbrev pub two_odds : ℕ → ℕ → Ratios
two_odds right wrong = record { right = odds right; wrong = odds wrong }

-- ratios, each as two numbers
abbrev pub two_ratios : ℕ → ℕ → ℕ → ℕ → Ratios
two_ratios right_a right_b wrong_a wrong_b =
    record {
      right = record { a = right_a; b = right_b };
      wrong =
          record { a = wrong_a; b = wrong_b };
    }

-- the words that must name an item, with their places in the line
abbrev pub setting_item_words : SettingCommand → List (ℕ × Text)
setting_item_words (settings.OddsItem item right wrong) = (2, item) ∷ []
setting_item_words (settings.RatioItem item right_a right_b wrong_a wrong_b) = (2, item) ∷ []
setting_item_words c = []

-- what is asked on the named items
abbrev pub setting_of : List Text → SettingCommand → Setting
setting_of names (settings.OddsAll right wrong) = setting.All (two_odds right wrong)
setting_of names (settings.OddsItem item right wrong) =
    setting.Item (item_of names item) (two_odds right wrong)
setting_of names (settings.RatioAll right_a right_b wrong_a wrong_b) =
    setting.All (two_ratios right_a right_b wrong_a wrong_b)
setting_of names (settings.RatioItem item right_a right_b wrong_a wrong_b) =
    setting.Item (item_of names item) (two_ratios right_a right_b wrong_a wrong_b)
setting_of names (settings.Limits budget share) = setting.Limits budget share

-- the item of a setting, if it is that of one item, is one of n
abbrev pub IsSettingOn : ℕ → Setting → Type 0
IsSettingOn n (setting.Item item ratios) = item < n
IsSettingOn n s = ⊤

-- ---- what is asked of a pupil

-- the words that must name an item, with their places in the line: behind the pupil's name
abbrev pub pupil_item_words : PupilCommand → List (ℕ × Text)
pupil_item_words (pupils.Reply name item right) = (3, item) ∷ []
pupil_item_words c = []

-- what is asked on the named items
abbrev pub pupil_of : List Text → PupilCommand → PupilRequest
pupil_of names (pupils.Pupil name) = pupil.Begin
pupil_of names (pupils.Question name) = pupil.Question
pupil_of names (pupils.Reply name item right) = pupil.Reply (item_of names item) right
pupil_of names (pupils.Report name) = pupil.Report
pupil_of names (pupils.Close name) = pupil.Close

-- the item of a reply is one of n
abbrev pub IsPupilOn : ℕ → PupilRequest → Type 0
IsPupilOn n (pupil.Reply item right) = item < n
IsPupilOn n what = ⊤
