-- The lines of a reply, line by line and word by word.
use Rattle.std.specs.Prelude.{ℕ, Bool, if◌then◌else◌, List, [], ◌∷◌, ◌++◌, map, length}
use Rattle.std.specs.Prelude.{Option, Some, None, codes, decimal}
use Rattle.std.specs.List.{flat_map}
use Rattle.ls_set.specs.{Items, comes_before, cursor}
use Rattle.ls_set.specs.declared.query.Query.{Query}
use Rattle.ls_theory.specs.declared.known.Known.{Known}
use Rattle.ls_theory.specs.{Interview, Page, PupilResult, compatible_sets}
use Rattle.ls_theory.specs.{is_lex_before, page, paths, projection}
use Rattle.ls_theory.specs.declared.verdict.BaseVerdict.{BaseVerdict}
use Rattle.ls_theory.specs.declared.verdict.BaseVerdict.TheVariants as of_base
use Rattle.ls_theory.specs.declared.verdict.Verdict.{Verdict}
use Rattle.ls_theory.specs.declared.verdict.Verdict.TheVariants.{NoEmpty, NoFull, NotClosed}
use Rattle.ls_theory.specs.declared.verdict.Verdict.TheVariants.{NotGraded, Learning}
use Rattle.ls_theory.specs.declared.asked.Asked.{Asked}
use Rattle.ls_theory.specs.declared.asked.Asked.TheVariants.{Item, Over}
use Rattle.ls_theory.specs.declared.fringe_pair.FringePair.{FringePair}
use Rattle.ls_theory.specs.declared.outcome.Outcome.{Outcome}
use Rattle.ls_origins.specs.declared.safe_answer.SafeAnswer.{SafeAnswer}
use Rattle.ls_lines.specs.{Text}
use Rattle.ls_domain.specs.Texts.{name_of, joined_names, set_text, fringe_words}
use Rattle.ls_files.specs.SurmiseFiles.{surmise_text}
use Rattle.ls_files.specs.SkillFiles.{base_skills, skills_text}
use Rattle.ls_origins.specs.declared.relation_fault.RelationFault.{RelationFault}
use Rattle.ls_origins.specs.declared.relation_fault.RelationFault.TheVariants as no_relation
use Rattle.ls_meaning.specs.Texts.{line_of}
use Rattle.ls_meaning.specs.Heads as head
use Rattle.ls_meaning.specs.Heads.{Head, head_word}
use Rattle.ls_meaning.specs.Sessions.{Session}
use Rattle.ls_meaning.specs.Refusals.{refusal_words, reason_word}
use Rattle.ls_meaning.specs.SafeRows.{applied, pending}
use Rattle.ls_meaning.specs.StateLists.{StateList}
use Rattle.ls_meaning.specs.declared.response.Response.{Response}
use Rattle.ls_meaning.specs.declared.response.Response.TheVariants.{Silence, Refused, Done, Agreed}
use Rattle.ls_meaning.specs.declared.response.Response.TheVariants.{Accepted, Shown}
use Rattle.ls_meaning.specs.declared.response.Shown.{Shown as Showing}
use Rattle.ls_meaning.specs.declared.response.Shown.TheVariants as shown

-- ---- lines of what is shown

-- a line: the word with which it begins, and the words behind that
pub record Line : Type 0 where
  pub head : Head
  pub rest : List Text

abbrev pub line : Head → List Text → Line
line head rest = record { head = head; rest = rest }

-- all words of a line, the head first
abbrev pub line_words : Line → List Text
line_words l = head_word l.head ∷ l.rest

-- the bytes of a line, and those of several
abbrev pub line_bytes : Line → List ℕ
line_bytes l = line_of (line_words l)

abbrev pub lines_bytes : List Line → List ℕ
lines_bytes ls = flat_map line_bytes ls

-- what is known of a query
abbrev pub known_line : Known → Line
known_line Known.Yes = line head.Known (codes "yes" ∷ [])
known_line (Known.No by) = line head.Known (codes "no" ∷ decimal by ∷ [])
known_line Known.Unsettled = line head.Known (codes "open" ∷ [])

-- the next question
abbrev pub question_line : List Text → Option Query → Line
question_line names None = line head.Settled []
question_line names (Some r) =
    line head.Ask (joined_names names r.a ∷ codes ":" ∷ name_of names r.q ∷ [])

-- a set: its cursor and its names
abbrev pub set_line : List Text → Items → Line
set_line names k = line head.Set (cursor (length names) k ∷ set_text names k ∷ [])

-- the sets of a base, and how many they are
abbrev pub base_lines : List Text → List Items → List Line
base_lines names sets =
    map (set_line names) sets ++ line head.Base (decimal (length sets) ∷ []) ∷ []

-- whether a further one follows
abbrev pub more_line : Bool → Line
more_line is_more = line head.More ((if is_more then codes "yes" else codes "no") ∷ [])

-- the sets of a page, and whether a further one follows
abbrev pub page_lines : List Text → Page Items → List Line
page_lines names p = map (set_line names) p.members ++ more_line p.more ∷ []

-- a page of listed states: as many as are asked for, those after a set or the first ones
abbrev pub listed_lines : List Text → StateList → ℕ → Option Items → List Line
listed_lines names l count after = page_lines names (page comes_before l.states after count)

-- a surmise function
abbrev pub surmise_line : List Text → List (List Items) → Line
surmise_line names clauses = line head.Surmise (surmise_text names clauses ∷ [])

-- a set that is an atom at two items, and these
abbrev pub double_words : List Text → Items → ℕ → ℕ → List Text
double_words names k first second =
    set_text names k ∷ name_of names first ∷ name_of names second ∷ []

-- whether a space is a learning space
abbrev pub learning_line : List Text → BaseVerdict → Line
learning_line names of_base.Learning = line head.Learning (codes "yes" ∷ [])
learning_line names (of_base.NotGraded k first second) =
    line head.Learning (codes "no" ∷ double_words names k first second)

-- a learning path
abbrev pub path_line : List Text → List ℕ → Line
path_line names order = line head.Path (map (name_of names) order)

-- the learning paths of a page, and whether a further one follows
abbrev pub path_lines : List Text → Page (List ℕ) → List Line
path_lines names p = map (path_line names) p.members ++ more_line p.more ∷ []

-- the verdict on a family
abbrev pub verdict_words : List Text → Verdict → List Text
verdict_words names NoEmpty = codes "no-empty" ∷ []
verdict_words names NoFull = codes "no-full" ∷ []
verdict_words names (NotClosed left right) =
    codes "not-closed" ∷ set_text names left ∷ set_text names right ∷ []
verdict_words names (NotGraded k first second) =
    codes "not-graded" ∷ double_words names k first second
verdict_words names (Learning base) = codes "learning" ∷ decimal (length base) ∷ []

-- the line of `test`, with the verdict
abbrev pub verdict_line : List Text → Verdict → Line
verdict_line names verdict = line head.Test (verdict_words names verdict)

-- two fringes
abbrev pub fringes_line : List Text → FringePair → Line
fringes_line names fringes = line head.Fringes (fringe_words names fringes.inner fringes.outer)

-- a state
abbrev pub state_line : List Text → Items → Line
state_line names k = line head.State (set_text names k ∷ [])

-- what a pupil is asked, or why its assessment is over
abbrev pub asked_line : List Text → Asked → Line
asked_line names (Item q) = line head.Question (name_of names q ∷ [])
asked_line names (Over reason) = line head.Over (reason_word reason ∷ [])

-- the leader with its weight, the total and the number of replies
abbrev pub outcome_line : List Text → Outcome → Line
outcome_line names o = line head.Report
    (set_text names o.state ∷ decimal o.weight ∷ decimal o.total ∷ decimal o.replies ∷ [])

-- what is known of a pupil of a class
abbrev pub result_line : List Text → PupilResult → Line
result_line names r = line head.Result
    (r.name ∷ decimal r.replies ∷ reason_word r.reason ∷ set_text names r.state ∷ [])

-- the pupils of a class, and how many they are
abbrev pub class_lines : List Text → List PupilResult → List Line
class_lines names rs =
    map (result_line names) rs ++ line head.Class (decimal (length rs) ∷ []) ∷ []

-- the skill map that has a skill for each of these sets
abbrev pub skills_line : List Text → List Items → Line
skills_line names sets = line head.Skills (skills_text names (base_skills sets) ∷ [])

-- what keeps a surmise function from being a relation
abbrev pub no_relation_line : List Text → RelationFault → Line
no_relation_line names (no_relation.TwoClauses q) =
    line head.Relation (codes "no" ∷ name_of names q ∷ [])
no_relation_line names (no_relation.Quasi first second) =
    line head.Relation (codes "quasi" ∷ name_of names first ∷ name_of names second ∷ [])
no_relation_line names (no_relation.Memory e) = line head.Relation []

-- a lower and a higher item
abbrev pub cover_line : List Text → ℕ × ℕ → Line
cover_line names p = line head.Cover (name_of names p.0 ∷ name_of names p.1 ∷ [])

-- the covers of a relation, and how many they are
abbrev pub cover_lines : List Text → List (ℕ × ℕ) → List Line
cover_lines names pairs =
    map (cover_line names) pairs ++ line head.Relation (decimal (length pairs) ∷ []) ∷ []

-- whether two parts agree
abbrev pub agree_line : Bool → Line
agree_line is_agreed = line head.Agree ((if is_agreed then codes "yes" else codes "no") ∷ [])

-- an answer of the safe interview
abbrev pub safe_line : SafeAnswer → Line
safe_line a = line head.Answer
    (decimal a.number ∷ (if a.applied then codes "applied" else codes "pending") ∷ [])

-- the answers, and how many of them are applied and wait
abbrev pub safe_lines : List SafeAnswer → List Line
safe_lines answers =
    map safe_line answers
    ++ line head.Safe (decimal (applied answers) ∷ decimal (pending answers) ∷ []) ∷ []

-- what is shown of an interview on named items, of a file, of a pupil or of a class
abbrev pub shown_lines : List Text → Interview → Showing → List Line
shown_lines names i (shown.Known known) = known_line known ∷ []
shown_lines names i (shown.Question next) = question_line names next ∷ []
shown_lines names i (shown.States count after) =
    page_lines names (page comes_before (compatible_sets i) after count)
shown_lines names i (shown.Base sets) = base_lines names sets
shown_lines names i (shown.Surmise clauses) = surmise_line names clauses ∷ []
shown_lines names i (shown.Learning verdict) = learning_line names verdict ∷ []
shown_lines names i (shown.Projected part count after) =
    page_lines names
    (page comes_before (projection (length names) part (compatible_sets i)) after count)
shown_lines names i (shown.ProjectedBase sets verdict) =
    base_lines names sets ++ learning_line names verdict ∷ []
shown_lines names i (shown.Fringes fringes) = fringes_line names fringes ∷ []
shown_lines names i (shown.State k) = state_line names k ∷ []
shown_lines names i (shown.Paths count after) =
    path_lines names (page is_lex_before (paths (length names) (compatible_sets i)) after count)
shown_lines names i (shown.Tested verdict) = verdict_line names verdict ∷ []
shown_lines names i (shown.Asked asked) = asked_line names asked ∷ []
shown_lines names i (shown.Report outcome fringes) =
    outcome_line names outcome ∷ fringes_line names fringes ∷ []
shown_lines names i (shown.Class results) = class_lines names results
shown_lines names i (shown.SkillMap sets) = skills_line names sets ∷ []
shown_lines names i (shown.NoRelation fault) = no_relation_line names fault ∷ []
shown_lines names i (shown.Covers pairs) = cover_lines names pairs
shown_lines names i (shown.Unions l count after) = listed_lines names l count after
shown_lines names i (shown.Duals l count after) = listed_lines names l count after
shown_lines names i (shown.Mesh l count after) = listed_lines names l count after
shown_lines names i (shown.Agree is_agreed) = agree_line is_agreed ∷ []
shown_lines names i (shown.SafeAnswers answers) = safe_lines answers

-- ---- all lines

-- an answer of the safe interview was accepted: its number, and how many are applied and wait
abbrev pub accepted_words : ℕ → ℕ → ℕ → List Text
accepted_words number applied pending =
    codes "ok" ∷ decimal number ∷ codes "applied" ∷ decimal applied
    ∷ codes "pending" ∷ decimal pending ∷ []

-- the lines of a response, each as its words; silence has none
abbrev pub lines_of : Session → Response → List (List Text)
lines_of s Silence = []
lines_of s (Refused refusal) = (codes "no" ∷ refusal_words s.names refusal) ∷ []
lines_of s (Done number) = (codes "ok" ∷ decimal number ∷ []) ∷ []
lines_of s Agreed = (codes "ok" ∷ []) ∷ []
lines_of s (Accepted number applied pending) = accepted_words number applied pending ∷ []
lines_of s (Shown what) = map line_words (shown_lines s.names s.interview what)
