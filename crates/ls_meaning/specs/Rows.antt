-- The row of each command: its refusals in their order, otherwise what it does.
use Rattle.std.specs.Prelude.{ℕ, Bool, true, not, ◌==◌, is_none, List, [], ◌∷◌, ◌++◌, length}
use Rattle.std.specs.Prelude.{Option, Some, None, Result, Ok, Err}
use Rattle.std.specs.Option.{option_map_or}
use Rattle.ls_set.specs.{Items, full, is_among, is_good}
use Rattle.ls_set.specs.declared.query.Query.{Query}
use Rattle.ls_set.specs.declared.cursor.CursorFault.{CursorFault}
use Rattle.ls_theory.specs.Starts.{Start, Clauses, Sets}
use Rattle.ls_theory.specs.{BlockRange, Interview, Peak, accepted, answer_with, base}
use Rattle.ls_theory.specs.{base_verdict, based, blocks, clauses_at, compat, compatible_sets}
use Rattle.ls_theory.specs.{fringes, is_order}
use Rattle.ls_theory.specs.{known, made, next_question, peak_of, projection, refusal, retracted}
use Rattle.ls_theory.specs.{state_of, verdict}
use Rattle.ls_theory.specs.declared.verdict.BaseVerdict.{BaseVerdict}
use Rattle.ls_theory.specs.declared.verdict.BaseVerdict.TheVariants.{NotGraded, Learning}
use Rattle.ls_theory.specs.declared.answer_fault.AnswerFault.TheVariants.{BadQuery}
use Rattle.ls_theory.specs.declared.block_fault.BlockFault.{BlockFault}
use Rattle.ls_theory.specs.declared.base_fault.BaseFault.{BaseFault}
use Rattle.ls_theory.specs.declared.surmise_fault.SurmiseFault.{SurmiseFault}
use Rattle.ls_origins.specs.Relations.{clauses_below}
use Rattle.ls_origins.specs.declared.pair_fault.PairFault.{PairFault}
use Rattle.ls_lines.specs.{Text}
use Rattle.ls_domain.specs.Domains.{names_of_words, names_of_table}
use Rattle.ls_domain.specs.declared.domain_fault.DomainFault.{DomainFault}
use Rattle.ls_files.specs.SetFiles.{sets_of}
use Rattle.ls_files.specs.SurmiseFiles.{surmise_of}
use Rattle.ls_files.specs.PairFiles.{relation_of}
use Rattle.ls_files.specs.declared.family_fault.FamilyFault.{FamilyFault}
use Rattle.ls_meaning.specs.Scenes.{Fetched, Bytes, Missing, TooLarge, Failed}
use Rattle.ls_meaning.specs.Sessions.{Session, started, has_domain}
use Rattle.ls_meaning.specs.Effects.{Change, changed, refuse, refuse_fault, ◌otherwise◌}
use Rattle.ls_meaning.specs.RelationRows.{relation_shown}
use Rattle.ls_meaning.specs.declared.response.Refusal.{Refusal}
use Rattle.ls_meaning.specs.declared.response.Refusal.TheVariants as refusal_of
use Rattle.ls_meaning.specs.declared.response.Response.{Response}
use Rattle.ls_meaning.specs.declared.response.Response.TheVariants.{Refused, Done, Shown}
use Rattle.ls_meaning.specs.declared.response.Shown.TheVariants as shown
use Rattle.ls_meaning.specs.declared.request.View.{View}
use Rattle.ls_meaning.specs.declared.request.View.TheVariants as view
use Rattle.ls_meaning.specs.declared.request.StartFile.{StartFile}
use Rattle.ls_meaning.specs.declared.request.StartFile.TheVariants as start_file
use Rattle.ls_meaning.specs.declared.request.Edit.{Edit}
use Rattle.ls_meaning.specs.declared.request.Edit.TheVariants as edit

-- ---- items

-- the names that were read, or the fault of the reading
abbrev pub names_read : Result (List Text) DomainFault → List Text
names_read (Ok names) = names
names_read (Err fault) = []

-- why the names are no domain, if they are none
abbrev pub domain_refusals : Result (List Text) DomainFault → List Refusal
domain_refusals (Ok names) = []
domain_refusals (Err fault) = refusal_of.Domain fault ∷ []

-- after these refusals, a domain of the names that were read
abbrev pub started_by : Session → List Refusal → Result (List Text) DomainFault → Change Session
started_by s refusals reading =
    let names = names_read reading in
    changed s (refusals ++ domain_refusals reading) (Done (length names)) (started names)

-- `items`
abbrev pub items_row : Session → List Text → Change Session
items_row s names =
    started_by s (refuse refusal_of.DomainStands (has_domain s)) (names_of_words names)

-- a file that is missing, is too large, or could not be fetched
abbrev pub file_refusals : Fetched → List Refusal
file_refusals (Bytes bytes) = []
file_refusals Missing = refusal_of.NoFile ∷ []
file_refusals (TooLarge length) = refusal_of.LargeFile length ∷ []
file_refusals Failed = refusal_of.FileFailed ∷ []

-- the bytes of a file; none, where it could not be had
abbrev pub bytes_fetched : Fetched → List ℕ
bytes_fetched (Bytes bytes) = bytes
bytes_fetched fetched = []

-- `load-items`
abbrev pub load_items_row : Session → Fetched → Change Session
load_items_row s fetched =
    started_by s (refuse refusal_of.DomainStands (has_domain s) ++ file_refusals fetched)
    (names_of_table (bytes_fetched fetched))

-- ---- starts

-- the clauses of a surmise file, or why they are no start
abbrev pub start_of_clauses : Result (List (List Items)) SurmiseFault → Result Start Refusal
start_of_clauses (Ok clauses) = Ok (Clauses clauses)
start_of_clauses (Err fault) = Err (refusal_of.StartSurmise fault)

-- the base of the unions of sets, or why there is none
abbrev pub start_of_base : Result (List Items) BaseFault → Result Start Refusal
start_of_base (Ok sets) = Ok (Sets sets)
start_of_base (Err fault) = Err (refusal_of.StartBase fault)

-- the base of the sets of a set file, or why it gives none
abbrev pub start_of_sets : ℕ → Result (List Items) FamilyFault → Result Start Refusal
start_of_sets n (Ok sets) = start_of_base (based n sets)
start_of_sets n (Err fault) = Err (refusal_of.StartSets fault)

-- the clauses of the relation of a file of pairs, or why it gives none
abbrev pub start_of_relation : Result (List Items) PairFault → Result Start Refusal
start_of_relation (Ok below) = Ok (Clauses (clauses_below below))
start_of_relation (Err fault) = Err (refusal_of.StartRelation fault)

-- the start that a file gives, or why it gives none
abbrev pub start_read : StartFile → List Text → List ℕ → Result Start Refusal
start_read start_file.Surmise names bytes = start_of_clauses (surmise_of names bytes)
start_read start_file.Base names bytes = start_of_sets (length names) (sets_of names bytes)
start_read start_file.Relation names bytes = start_of_relation (relation_of names bytes)

-- why no start was read, if none was
abbrev pub start_refusals : Result Start Refusal → List Refusal
start_refusals (Ok start) = []
start_refusals (Err refusal) = refusal ∷ []

-- the start that was read, or else the one that stands
abbrev pub start_or : Start → Result Start Refusal → Start
start_or start (Ok read) = read
start_or start (Err refusal) = start

-- the number that is told of a start on n items: of a relation how many items there are, of the
-- others how many sets the base has
abbrev pub start_number : StartFile → ℕ → Start → ℕ
start_number start_file.Surmise n start = length (base (compat n start []))
start_number start_file.Base n start = length (base (compat n start []))
start_number start_file.Relation n start = n

-- the interview with the start that was read from such a file, after these refusals
abbrev pub starts_by : StartFile → Interview → List Refusal → Result Start Refusal
    → Change Interview
starts_by kind i refusals reading =
    let start = start_or i.start reading in
    changed i (refusals ++ start_refusals reading) (Done (start_number kind i.count start))
    (record i { start = start })

-- `start surmise`, `start base` and `start relation`: no answer stands
abbrev pub start_row : StartFile → Session → Fetched → Change Interview
start_row kind s fetched =
    let i = s.interview in
    starts_by kind i (refuse refusal_of.AnswersStand (not (length i.answers == 0))
    ++ file_refusals fetched) (start_read kind s.names (bytes_fetched fetched))

-- ---- what an interview shows

-- `known`
abbrev pub known_row : Interview → Query → Response
known_row i r =
    refuse (refusal_of.Answer BadQuery) (not (is_good i.count r))
    otherwise Shown (shown.Known (known i r))

-- `ask`
abbrev pub ask_row : Interview → Response
ask_row i = Shown (shown.Question (next_question i None))

-- the set of a cursor, if there is one
abbrev pub after_or : Result (Option Items) CursorFault → Option Items
after_or (Ok after) = after
after_or (Err fault) = None

-- why a text is no cursor, if it is none
abbrev pub cursor_refusals : Result (Option Items) CursorFault → List Refusal
cursor_refusals (Ok after) = []
cursor_refusals (Err fault) = refusal_of.Cursor fault ∷ []

-- `states`: as many as are asked for, those after the cursor's set or the first ones
abbrev pub states_row : ℕ → Result (Option Items) CursorFault → Response
states_row count (Ok after) = Shown (shown.States count after)
states_row count (Err fault) = Refused (refusal_of.Cursor fault)

-- the refusal of a base that had too many sets
abbrev pub past_refusal : Peak → Refusal
past_refusal p = refusal_of.Past p.position p.count

-- what stands on the base
abbrev pub based_row : Interview → Response → Response
based_row i response = refuse_fault past_refusal (peak_of i) otherwise response

-- `base`
abbrev pub base_row : Interview → Response
base_row i = based_row i (Shown (shown.Base (base (compatible_sets i))))

-- `surmise`
abbrev pub surmise_row : Interview → Response
surmise_row i = based_row i (Shown (shown.Surmise (clauses_at i.count (compatible_sets i))))

-- `learning`
abbrev pub learning_row : Interview → Response
learning_row i = based_row i (Shown (shown.Learning (base_verdict (compatible_sets i))))

-- `project`: the sets of the projection, as those of `states`
abbrev pub project_row : Items → ℕ → Result (Option Items) CursorFault → Response
project_row part count (Ok after) = Shown (shown.Projected part count after)
project_row part count (Err fault) = Refused (refusal_of.Cursor fault)

-- `project-base`
abbrev pub project_base_row : Interview → Items → Response
project_base_row i part =
    let f = projection i.count part (compatible_sets i) in
    based_row i (Shown (shown.ProjectedBase (base f) (base_verdict f)))

-- `fringes`
abbrev pub fringes_row : Interview → Items → Response
fringes_row i k =
    let f = compatible_sets i in
    refuse refusal_of.NotState (not (is_among f k))
    otherwise Shown (shown.Fringes (fringes i.count f k))

-- the refusal of states that are no learning space
abbrev pub learning_refusals : BaseVerdict → List Refusal
learning_refusals Learning = []
learning_refusals (NotGraded k first second) = refusal_of.NotLearning k first second ∷ []

-- what stands on a learning space
abbrev pub learned : List Items → Response → Response
learned f response = learning_refusals (base_verdict f) otherwise response

-- `state-of`
abbrev pub state_shown : Option Items → Response
state_shown None = Refused refusal_of.NoState
state_shown (Some k) = Shown (shown.State k)

-- the state with the two fringes, on a learning space whose base is within its bound
abbrev pub state_row : Interview → Items → Items → Response
state_row i inner outer =
    let f = compatible_sets i in
    based_row i (learned f (state_shown (state_of i.count f inner outer)))

-- `paths`: as many as are asked for, those after an order of the n items or the first ones
abbrev pub paths_shown : ℕ → ℕ → Option (List ℕ) → Response
paths_shown n count after =
    refuse refusal_of.NotOrder (not (option_map_or (is_order n) after true))
    otherwise Shown (shown.Paths count after)

-- the paths of a learning space whose base is within its bound
abbrev pub paths_row : Interview → ℕ → Option (List ℕ) → Response
paths_row i count after =
    based_row i (learned (compatible_sets i) (paths_shown i.count count after))

-- `skill-map`
abbrev pub skill_map_row : Interview → Response
skill_map_row i = based_row i (Shown (shown.SkillMap (base (compatible_sets i))))

-- `relation`
abbrev pub relation_row : Interview → Response
relation_row i = based_row i (relation_shown i.count (clauses_at i.count (compatible_sets i)))

-- each look at the interview
abbrev pub view_row : Interview → View → Response
view_row i (view.Known r) = known_row i r
view_row i view.Ask = ask_row i
view_row i (view.States count after) = states_row count after
view_row i view.Base = base_row i
view_row i view.Surmise = surmise_row i
view_row i view.Learning = learning_row i
view_row i (view.Project part count after) = project_row part count after
view_row i (view.ProjectBase part) = project_base_row i part
view_row i (view.Fringes k) = fringes_row i k
view_row i (view.StateOf inner outer) = state_row i inner outer
view_row i (view.Paths count after) = paths_row i count after
view_row i view.SkillMap = skill_map_row i
view_row i view.Relation = relation_row i

-- ---- what a file shows

-- the sets that were read, or the fault of the reading
abbrev pub sets_read : Result (List Items) FamilyFault → List Items
sets_read (Ok sets) = sets
sets_read (Err fault) = []

-- why a file to test is no list of sets, if it is none
abbrev pub sets_refusals : Result (List Items) FamilyFault → List Refusal
sets_refusals (Ok sets) = []
sets_refusals (Err fault) = refusal_of.TestedSets fault ∷ []

-- `test`: the verdict on the sets that were read, after these refusals
abbrev pub tested_by : ℕ → List Refusal → Result (List Items) FamilyFault → Response
tested_by n refusals reading =
    (refusals ++ sets_refusals reading)
    otherwise Shown (shown.Tested (verdict (full n) (sets_read reading)))

-- the same for the sets of the file that was fetched
abbrev pub test_row : List Text → Fetched → Response
test_row names fetched =
    tested_by (length names) (file_refusals fetched) (sets_of names (bytes_fetched fetched))

-- ---- how an interview changes

-- why blocks can't be made, if they can't
abbrev pub block_refusals : Result BlockRange BlockFault → List Refusal
block_refusals (Ok b) = []
block_refusals (Err fault) = refusal_of.Block fault ∷ []

-- `blocks`: questions are asked of sets of 1 to `size` items, whose number is told
abbrev pub blocks_row : Interview → ℕ → Change Interview
blocks_row i size =
    changed i (block_refusals (made i.count size)) (Done (length (blocks i.count size)))
    (record i { block = size })

-- `yes` and `no`: an answer gets the next number, which is told
abbrev pub answer_row : Interview → Query → Bool → Change Interview
answer_row i r is_yes =
    changed i (refuse_fault refusal_of.Answer (refusal i r is_yes)) (Done i.next)
    (accepted i r is_yes)

-- `retract`
abbrev pub retract_row : Interview → ℕ → Change Interview
retract_row i number =
    changed i (refuse refusal_of.NotStanding (is_none (answer_with i number))) (Done number)
    (retracted i number)

-- each change of the interview
abbrev pub edit_row : Interview → Edit → Change Interview
edit_row i (edit.Blocks size) = blocks_row i size
edit_row i (edit.Answer r is_yes) = answer_row i r is_yes
edit_row i (edit.Retract number) = retract_row i number
