-- The script of a named file, by what was fetched; and a run over a script that is there whole.
use Rattle.ls_shell.proofs.Vocabulary.{◌++◌, ◌∙◌, ◌∷◌, ◌≡◌, ◌≤◌, AllocError, AnswersFile, AnswersGiven, AnswersNamed, AnswersScript, AnswersWhole, Bool, Done, Err, FetchFault, FetchedFrom, Fetches, FewMarks, Folder, GivesBytes, HasAnswered, InputLong, IsErrAnd, IsErrOf, LeavesAll, List, Marked, MatchResult, Memory, NoMemory, NoScript, None, Ok, Option, ReadFault, Refused, Result, Rose, Some, Status, FolderStays, StepFault, StopsAt, Text, Usage, Vec, Write, WriteFault, ℕ, [], ap, arith, cond, false, given, le-ltb, length, lines, longest_file, ltb, refl, subst, sym, true}
use Rattle.std.specs.declared.alloc.Global.{Global}
use Rattle.std.specs.FinMap as map
use Rattle.ls_edge.specs.declared.traits.FetchFault.TheVariants as fetch
use Rattle.ls_shell.proofs.Scripts.{whole_unmarked}

-- ---- what a fetch has to give, by what was fetched

module _ (m : Folder) (left : Option Folder) (hb hn : ℕ) (before after : Option (List ℕ)) where
  abbrev Found : Option (List ℕ) → Status → Type 0
  Found o status = AnswersGiven (given o) m left hb hn before after status

  -- what a test on the length has to give
  abbrev tested : List ℕ → Bool → Result (List ℕ) FetchFault
  tested bytes t = cond t (Err (fetch.TooLarge (length bytes))) (Ok bytes)

  abbrev Gives : Result (List ℕ) FetchFault → Result (Vec ℕ Global) FetchFault → Type 0
  Gives g r = MatchResult g (λ b. GivesBytes b r) (λ e. r ≡ Err e)

  -- the bytes are those of the file
  pub found-read : (o : Option (List ℕ)) (v : Vec ℕ Global) (status : Status) → FetchedFrom o (Ok v) → AnswersFile m v.items left hb hn before after status → Found o status
  found-read None v status h a = absurd (cc h)
  found-read (Some bytes) v status h a =
      elim (ltb longest_file (length bytes)) as (λ t. Gives (tested bytes t) (Ok v) → AnswersGiven (tested bytes t) m left hb hn before after status) [
        | true ↦ λ e. absurd (cc e)
        | false ↦ λ e. subst (λ (bs : List ℕ). AnswersFile m bs left hb hn before after status) e a
      ] h

  -- there is no such file
  pub found-missing : (o : Option (List ℕ)) → FetchedFrom o (Err fetch.Missing) → LeavesAll m left before after → Found o NoScript
  found-missing None h a = a
  found-missing (Some bytes) h a =
      elim (ltb longest_file (length bytes)) as (λ t. Gives (tested bytes t) (Err fetch.Missing) → AnswersGiven (tested bytes t) m left hb hn before after NoScript) [
        | true ↦ λ e. absurd (cc e)
        | false ↦ λ e. absurd e
      ] h

  -- it is too long
  pub found-long : (o : Option (List ℕ)) (n : ℕ) → FetchedFrom o (Err (fetch.TooLarge n)) → LeavesAll m left before after → Found o InputLong
  found-long None n h a = absurd (cc h)
  found-long (Some bytes) n h a =
      elim (ltb longest_file (length bytes)) as (λ t. Gives (tested bytes t) (Err (fetch.TooLarge n)) → AnswersGiven (tested bytes t) m left hb hn before after InputLong) [
        | true ↦ λ e. a
        | false ↦ λ e. absurd e
      ] h

  -- it could not be fetched
  pub found-failed : (o : Option (List ℕ)) → FetchedFrom o (Err fetch.Failed) → LeavesAll m left before after → Rose hb hn → Found o ReadFault
  found-failed None h a r = absurd (cc h)
  found-failed (Some bytes) h a r =
      elim (ltb longest_file (length bytes)) as (λ t. Gives (tested bytes t) (Err fetch.Failed) → AnswersGiven (tested bytes t) m left hb hn before after ReadFault) [
        | true ↦ λ e. absurd (cc e)
        | false ↦ λ e. (a, r)
      ] h

  -- there was no memory for it
  pub found-none : (o : Option (List ℕ)) → LeavesAll m left before after → ((bytes : List ℕ) → StopsAt ⊥ m (lines bytes) left hb hn before after) → Found o NoMemory
  found-none None a h = a
  found-none (Some bytes) a h = elim (ltb longest_file (length bytes)) as (λ t. AnswersGiven (tested bytes t) m left hb hn before after NoMemory) [
    | true ↦ a
    | false ↦ h bytes
  ]

-- a file that is not too long is given
pub given-short : (bytes : List ℕ) → length bytes ≤ longest_file → given (Some bytes) ≡ Ok bytes
given-short bytes h = ap (λ b. cond b (Err (fetch.TooLarge (length bytes))) (Ok bytes)) (le-ltb longest_file (length bytes) h)

-- ---- counts from earlier on

few-earlier : (ls : List Marked) (before then now : ℕ) → before ≤ then → FewMarks ls then now → FewMarks ls before now
few-earlier ls before then now l h low = omega (arith, h low)

module _ (m : Folder) (left : Option Folder) (before then now : ℕ) (l : before ≤ then) (a b : Option (List ℕ)) where
  answered-earlier : (ls : List Marked) → HasAnswered m ls left then now a b → HasAnswered m ls left before now a b
  answered-earlier ls h = record { written = h.written; files = h.files; few = few-earlier ls before then now l h.few }

  pub whole-earlier : (script : List ℕ) (refused : Bool) → AnswersWhole m script left then now a b refused → AnswersWhole m script left before now a b refused
  whole-earlier script refused h = record { ended = h.ended; all_lines = h.all_lines; told = h.told; answered = answered-earlier h.ended h.answered }

  pub stops-earlier : (W : Type 0) (all : List (List ℕ)) → StopsAt W m all left then now a b → StopsAt W m all left before now a b
  stops-earlier W all h = record {
    ended = h.ended;
    at = h.at;
    others = h.others;
    all_lines = h.all_lines;
    front = h.front;
    written = h.written;
    files = h.files;
    few = few-earlier (h.ended ++ h.at ∷ []) before then now l h.few;
  }

-- a told folder stays
pub stays-told : (old new : Option Folder) (m : Folder) → FolderStays old new → old ≡ Some m → new ≡ Some m
stays-told None new m h e = absurd (cc e)
stays-told (Some k) new m h e = h ∙ e

pub fetched-told : (old new : Option Folder) (name : Text) (r : Result (Vec ℕ Global) FetchFault) (m : Folder) → Fetches old new name r → old ≡ Some m → FetchedFrom (map.get m name) r
fetched-told None new name r m h e = absurd (cc e)
fetched-told (Some k) new name r m h e = subst (λ (x : Folder). FetchedFrom (map.get x name) r) (let same : k ≡ m = cc e in same) h.1

-- ---- faults that are passed on

pub told_same : {T U : Type 0} (q : Result U StepFault) (r : Result T StepFault) (e : StepFault) → r ≡ Err e → IsErrAnd q (λ f. f ≡ e) → IsErrOf q Write → IsErrOf r Write
told_same (Ok x) r e was is h = absurd is
told_same (Err f) r e was is h = was ∙ ap Err (sym is ∙ (let same : f ≡ Write = cc h in same))

pub never_write : {U : Type 0} (q : Result U StepFault) (e : AllocError) → IsErrAnd q (λ f. f ≡ Memory e) → IsErrOf q Write → ⊥
never_write (Ok x) e is h = absurd is
never_write (Err f) e is h = let same : f ≡ Write = cc h in absurd (cc (is, same))

-- ---- a script of a told folder

-- where no call on the folder failed, the transcript was written
pub script-answered : (m : Folder) (script : List ℕ) (left : Option Folder) (hb hn : ℕ) (before after : Option (List ℕ)) (status : Status) → AnswersFile m script left hb hn before after status → (Rose hb hn → ⊥) → (status ≡ WriteFault → ⊥)
    → AnswersScript m script left before after status
script-answered m script left hb hn before after Done a quiet sink = whole_unmarked m script left hb hn before after false a quiet
script-answered m script left hb hn before after Refused a quiet sink = whole_unmarked m script left hb hn before after true a quiet
script-answered m script left hb hn before after ReadFault a quiet sink = absurd (quiet a.1)
script-answered m script left hb hn before after WriteFault a quiet sink = absurd (sink refl)
script-answered m script left hb hn before after NoMemory a quiet sink = tt
script-answered m script left hb hn before after Usage a quiet sink = absurd a
script-answered m script left hb hn before after InputLong a quiet sink = absurd a
script-answered m script left hb hn before after NoScript a quiet sink = absurd a

-- the file of the name is given
pub named-script : (m : Folder) (name : Text) (script : List ℕ) (left : Option Folder) (hb hn : ℕ) (before after : Option (List ℕ)) (status : Status) → AnswersNamed name m left hb hn before after status → map.get m name ≡ Some script → length script ≤ longest_file
    → AnswersFile m script left hb hn before after status
named-script m name script left hb hn before after status a got short =
    subst (λ (r : Result (List ℕ) FetchFault). AnswersGiven r m left hb hn before after status) (ap given got ∙ given-short script short) a
