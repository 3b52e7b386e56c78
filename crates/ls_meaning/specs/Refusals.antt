-- What a refusal tells: its code, and its details. Want of memory refuses no line, so the rows of
-- `Memory` are never told.
use Rattle.std.specs.Prelude.{ℕ, List, [], ◌∷◌, map, codes, decimal}
use Rattle.ls_set.specs.declared.cursor.CursorFault.{CursorFault}
use Rattle.ls_set.specs.declared.cursor.CursorFault.TheVariants as cursor
use Rattle.ls_theory.specs.declared.answer_fault.AnswerFault.{AnswerFault}
use Rattle.ls_theory.specs.declared.answer_fault.AnswerFault.TheVariants as answer
use Rattle.ls_theory.specs.declared.block_fault.BlockFault.{BlockFault}
use Rattle.ls_theory.specs.declared.block_fault.BlockFault.TheVariants as block
use Rattle.ls_theory.specs.declared.base_fault.BaseFault.{BaseFault}
use Rattle.ls_theory.specs.declared.base_fault.BaseFault.TheVariants as base
use Rattle.ls_theory.specs.declared.surmise_fault.SurmiseFault.{SurmiseFault}
use Rattle.ls_theory.specs.declared.surmise_fault.SurmiseFault.TheVariants as surmise
use Rattle.ls_theory.specs.declared.reason.Reason.{Reason}
use Rattle.ls_theory.specs.declared.reason.Reason.TheVariants.{Share, Budget}
use Rattle.ls_theory.specs.declared.reply_fault.ReplyFault.{ReplyFault}
use Rattle.ls_theory.specs.declared.reply_fault.ReplyFault.TheVariants as reply
use Rattle.ls_origins.specs.declared.safe_fault.SafeFault.{SafeFault}
use Rattle.ls_origins.specs.declared.safe_fault.SafeFault.TheVariants as safe
use Rattle.ls_lines.specs.{Text}
use Rattle.ls_domain.specs.declared.domain_fault.DomainFault.{DomainFault}
use Rattle.ls_domain.specs.declared.domain_fault.DomainFault.TheVariants as domain
use Rattle.ls_domain.specs.Texts.{name_of, set_text}
use Rattle.ls_files.specs.declared.family_fault.FamilyFault.{FamilyFault}
use Rattle.ls_files.specs.declared.family_fault.FamilyFault.TheVariants as sets
use Rattle.ls_files.specs.declared.cause.Cause.{Cause}
use Rattle.ls_files.specs.declared.cause.Cause.TheVariants as cause
use Rattle.ls_meaning.specs.Told.{Detail, Word, Number, Item, Set, Notice, told}
use Rattle.ls_meaning.specs.FileRefusals.{skill_notice, part_notice, mesh_notice, pair_notice}
use Rattle.ls_meaning.specs.declared.response.Refusal.{Refusal}
use Rattle.ls_meaning.specs.declared.response.Refusal.TheVariants.{NoCommand, LongLine}
use Rattle.ls_meaning.specs.declared.response.Refusal.TheVariants.{DomainStands, Domain}
use Rattle.ls_meaning.specs.declared.response.Refusal.TheVariants.{AnswersStand, StartSurmise}
use Rattle.ls_meaning.specs.declared.response.Refusal.TheVariants.{StartSets, StartBase, Unnamed}
use Rattle.ls_meaning.specs.declared.response.Refusal.TheVariants.{Block, Answer, NotStanding}
use Rattle.ls_meaning.specs.declared.response.Refusal.TheVariants.{Cursor, Past, NoFile, FileFailed}
use Rattle.ls_meaning.specs.declared.response.Refusal.TheVariants.{LargeFile, TestedSets, NotState}
use Rattle.ls_meaning.specs.declared.response.Refusal.TheVariants.{NotLearning, NoState, NotOrder}
use Rattle.ls_meaning.specs.declared.response.Refusal.TheVariants.{ManyStates, Heavy, ManyPupils}
use Rattle.ls_meaning.specs.declared.response.Refusal.TheVariants.{PupilStands, NoPupil, Reply}
use Rattle.ls_meaning.specs.declared.response.Refusal.TheVariants.{BadSetting, BadClass, BadSession}
use Rattle.ls_meaning.specs.declared.response.Refusal.TheVariants.{Skills, PartSets, Mesh}
use Rattle.ls_meaning.specs.declared.response.Refusal.TheVariants.{StartRelation, SafeStands}
use Rattle.ls_meaning.specs.declared.response.Refusal.TheVariants.{NoSafe, Safe}

-- where the names are those of the items
abbrev pub detail_word : List Text → Detail → Text
detail_word names (Word w) = w
detail_word names (Number n) = decimal n
detail_word names (Item q) = name_of names q
detail_word names (Set k) = set_text names k

-- the code as a word, and then those of the details
abbrev pub notice_words : List Text → Notice → List Text
notice_words names notice = decimal notice.code ∷ map (detail_word names) notice.details

-- names that are no domain
abbrev pub domain_notice : DomainFault → Notice
domain_notice domain.NoItems = told 12 (Word (codes "none") ∷ [])
domain_notice (domain.BadCsv row) = told 12 (Word (codes "csv") ∷ Number row ∷ [])
domain_notice (domain.BadName row) = told 12 (Word (codes "name") ∷ Number row ∷ [])
domain_notice (domain.Repeat row first) =
    told 12 (Word (codes "repeat") ∷ Number row ∷ Number first ∷ [])
domain_notice domain.TooMany = told 12 (Word (codes "many") ∷ [])
domain_notice (domain.Memory e) = told 12 []

-- blocks that can't be made
abbrev pub block_notice : BlockFault → Notice
block_notice (block.TooWide size) = told 16 (Number size ∷ [])
block_notice block.BadBlock = told 17 []
block_notice (block.Memory e) = told 16 []

-- answers that can't be taken
abbrev pub answer_notice : AnswerFault → Notice
answer_notice answer.BadQuery = told 18 []
answer_notice (answer.Repeat number) = told 19 (Number number ∷ [])
answer_notice answer.ForcedYes = told 20 []
answer_notice (answer.ForcedNo by) = told 21 (Number by ∷ [])
answer_notice answer.Full = told 22 []
answer_notice (answer.Memory e) = told 22 []

-- answers that a safe interview doesn't take
abbrev pub safe_notice : SafeFault → Notice
safe_notice safe.BadQuery = told 18 []
safe_notice (safe.Repeat number) = told 52 (Number number ∷ [])
safe_notice safe.Full = told 22 []
safe_notice (safe.Past count) = told 53 (Number count ∷ [])
safe_notice (safe.Memory e) = told 22 []

-- texts that are no cursor
abbrev pub cursor_notice : CursorFault → Notice
cursor_notice (cursor.Length had) = told 24 (Word (codes "length") ∷ Number had ∷ [])
cursor_notice (cursor.Digit place) = told 24 (Word (codes "digit") ∷ Number place ∷ [])
cursor_notice cursor.Spare = told 24 (Word (codes "spare") ∷ [])

-- clauses of a file that are no start
abbrev pub surmise_notice : SurmiseFault → Notice
surmise_notice surmise.BadJson = told 14 (Word (codes "json") ∷ [])
surmise_notice surmise.UnknownItem = told 14 (Word (codes "unknown") ∷ [])
surmise_notice (surmise.NoClause q) = told 14 (Word (codes "no-clause") ∷ Item q ∷ [])
surmise_notice (surmise.Reflexive q clause) =
    told 14 (Word (codes "reflexive") ∷ Item q ∷ Number clause ∷ [])
surmise_notice (surmise.NotClosed q clause r) =
    told 14 (Word (codes "open") ∷ Item q ∷ Number clause ∷ Item r ∷ [])
surmise_notice (surmise.Comparable q first second) =
    told 14 (Word (codes "comparable") ∷ Item q ∷ Number first ∷ Number second ∷ [])
surmise_notice (surmise.Wide count) = told 14 (Word (codes "wide") ∷ Number count ∷ [])
surmise_notice (surmise.Memory e) = told 14 []

-- a file that is no list of sets, behind the code
abbrev pub sets_notice : ℕ → FamilyFault → Notice
sets_notice code (sets.BadLine row) = told code (Word (codes "line") ∷ Number row ∷ [])
sets_notice code (sets.UnknownItem row) = told code (Word (codes "unknown-item") ∷ Number row ∷ [])
sets_notice code (sets.Repeat row first) =
    told code (Word (codes "repeat") ∷ Number row ∷ Number first ∷ [])
sets_notice code (sets.TooMany row) = told code (Word (codes "many") ∷ Number row ∷ [])
sets_notice code (sets.Memory e) = told code []

-- sets of a file that are no start
abbrev pub base_notice : BaseFault → Notice
base_notice (base.NotSpanning q) = told 14 (Word (codes "not-spanning") ∷ Item q ∷ [])
base_notice (base.Past count) = told 14 (Word (codes "wide") ∷ Number count ∷ [])
base_notice (base.Memory e) = told 14 []

-- why an assessment is over
abbrev pub reason_word : Reason → Text
reason_word Share = codes "share"
reason_word Budget = codes "budget"

-- replies that can't be taken
abbrev pub reply_notice : ReplyFault → Notice
reply_notice (reply.Over reason) = told 39 (Word (reason_word reason) ∷ [])
reply_notice (reply.WrongItem asked) = told 40 (Item asked ∷ [])

-- why a file is no saved session
abbrev pub cause_word : Cause → Text
cause_word cause.Json = codes "json"
cause_word cause.Version = codes "version"
cause_word cause.Items = codes "items"
cause_word cause.Limits = codes "limits"
cause_word cause.Odds = codes "odds"
cause_word cause.Start = codes "start"
cause_word cause.Block = codes "block"
cause_word cause.Answers = codes "answers"
cause_word cause.Pupils = codes "pupils"

-- the code of each refusal, and what it tells of its fault
abbrev pub refusal_notice : Refusal → Notice
refusal_notice (NoCommand place) = told 10 (Number place ∷ [])
refusal_notice (LongLine bytes) = told 10 (Word (codes "long") ∷ Number bytes ∷ [])
refusal_notice DomainStands = told 11 []
refusal_notice (Domain fault) = domain_notice fault
refusal_notice AnswersStand = told 13 []
refusal_notice (StartSurmise fault) = surmise_notice fault
refusal_notice (StartSets fault) = sets_notice 14 fault
refusal_notice (StartBase fault) = base_notice fault
refusal_notice (Unnamed place) = told 15 (Number place ∷ [])
refusal_notice (Block fault) = block_notice fault
refusal_notice (Answer fault) = answer_notice fault
refusal_notice NotStanding = told 23 []
refusal_notice (Cursor fault) = cursor_notice fault
refusal_notice (Past position count) = told 25 (Number position ∷ Number count ∷ [])
refusal_notice NoFile = told 26 []
refusal_notice FileFailed = told 27 []
refusal_notice (LargeFile bytes) = told 28 (Number bytes ∷ [])
refusal_notice (TestedSets fault) = sets_notice 29 fault
refusal_notice NotState = told 30 []
refusal_notice (NotLearning k first second) = told 31 (Set k ∷ Item first ∷ Item second ∷ [])
refusal_notice NoState = told 32 []
refusal_notice NotOrder = told 33 []
refusal_notice ManyStates = told 34 []
refusal_notice (Heavy replies) = told 35 (Number replies ∷ [])
refusal_notice ManyPupils = told 36 []
refusal_notice PupilStands = told 37 []
refusal_notice NoPupil = told 38 []
refusal_notice (Reply fault) = reply_notice fault
refusal_notice BadSetting = told 43 []
refusal_notice (BadClass row) = told 41 (Number row ∷ [])
refusal_notice (BadSession cause) = told 42 (Word (cause_word cause) ∷ [])
refusal_notice SafeStands = told 50 []
refusal_notice NoSafe = told 51 []
refusal_notice (Safe fault) = safe_notice fault
refusal_notice (Skills fault) = skill_notice fault
refusal_notice (PartSets side fault) = part_notice side fault
refusal_notice (Mesh fault) = mesh_notice fault
refusal_notice (StartRelation fault) = pair_notice fault

-- the words behind `no`
abbrev pub refusal_words : List Text → Refusal → List Text
refusal_words names refusal = notice_words names (refusal_notice refusal)
