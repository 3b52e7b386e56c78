-- What a run over the script of a named file did, by its status.
use Rattle.ls_shell.proofs.Vocabulary.{◌≡◌, AnswersFile, AnswersGiven, AnswersWhole, Bool, Done, Err, FetchFault, FetchedFrom, Folder, IfOk, IsErrOf, LeavesAll, List, Memory, NoMemory, Ok, OnErr, ReadFault, Refused, Result, Rose, StepFault, StopsAt, Usage, Write, WriteFault, ℕ, false, given, lines, refl, true, unread_status, whole_status, ⊤}
use Rattle.std.specs.declared.option.Option.{Option}
use Rattle.ls_edge.specs.declared.traits.FetchFault.TheVariants as fetch
use Rattle.ls_shell.proofs.Answered.{stops_if}
use Rattle.ls_shell.proofs.Fetched.{found-missing, found-long, found-failed, found-none}

-- ---- the script was fetched

module _ (m : Folder) (script : List ℕ) (left : Option Folder) (hb hn : ℕ) (before after : Option (List ℕ)) where
  pub whole_answered : (r : Result Bool StepFault) → IfOk r (λ b. AnswersWhole m script left hb hn before after b) → OnErr r (StopsAt (IsErrOf r Write) m (lines script) left hb hn before after)
      → AnswersFile m script left hb hn before after (whole_status r)
  whole_answered (Ok false) w s = w
  whole_answered (Ok true) w s = w
  whole_answered (Err Write) w s = stops_if _ ⊤ m (lines script) left hb hn before after (λ _. refl) s
  whole_answered (Err (Memory e)) w s = stops_if _ ⊥ m (lines script) left hb hn before after (λ b. absurd b) s

pub whole_write : (r : Result Bool StepFault) → whole_status r ≡ WriteFault → IsErrOf r Write
whole_write (Ok false) e = absurd (cc e)
whole_write (Ok true) e = absurd (cc e)
whole_write (Err Write) e = refl
whole_write (Err (Memory x)) e = absurd (cc e)

-- it was read, and the words were understood
pub whole_read : (r : Result Bool StepFault) → whole_status r ≡ ReadFault → ⊥
whole_read (Ok false) e = cc e
whole_read (Ok true) e = cc e
whole_read (Err Write) e = cc e
whole_read (Err (Memory x)) e = cc e

pub whole_usage : (r : Result Bool StepFault) → whole_status r ≡ Usage → ⊥
whole_usage (Ok false) e = cc e
whole_usage (Ok true) e = cc e
whole_usage (Err Write) e = cc e
whole_usage (Err (Memory x)) e = cc e

pub whole_only : (r : Result Bool StepFault) → (whole_status r ≡ Done → ⊥) → (whole_status r ≡ Refused → ⊥) → (whole_status r ≡ WriteFault → ⊥) → (whole_status r ≡ NoMemory → ⊥) → ⊥
whole_only (Ok false) done refused write memory = done refl
whole_only (Ok true) done refused write memory = refused refl
whole_only (Err Write) done refused write memory = write refl
whole_only (Err (Memory x)) done refused write memory = memory refl

-- ---- it was not

module _ (m : Folder) (left : Option Folder) (hb hn : ℕ) (before after : Option (List ℕ)) where
  pub unread_answered : (o : Option (List ℕ)) (f : FetchFault) → FetchedFrom o (Err f) → LeavesAll m left before after → (f ≡ fetch.Failed → Rose hb hn) → ((bytes : List ℕ) → StopsAt ⊥ m (lines bytes) left hb hn before after)
      → AnswersGiven (given o) m left hb hn before after (unread_status f)
  unread_answered o fetch.Missing h all rose none = found-missing m left hb hn before after o h all
  unread_answered o (fetch.TooLarge bytes) h all rose none = found-long m left hb hn before after o bytes h all
  unread_answered o fetch.Failed h all rose none = found-failed m left hb hn before after o h all (rose refl)
  unread_answered o (fetch.Memory e) h all rose none = found-none m left hb hn before after o all none

pub unread_failed : (f : FetchFault) → unread_status f ≡ ReadFault → f ≡ fetch.Failed
unread_failed fetch.Missing e = absurd (cc e)
unread_failed (fetch.TooLarge bytes) e = absurd (cc e)
unread_failed fetch.Failed e = refl
unread_failed (fetch.Memory x) e = absurd (cc e)

pub unread_write : (f : FetchFault) → unread_status f ≡ WriteFault → ⊥
unread_write fetch.Missing e = cc e
unread_write (fetch.TooLarge bytes) e = cc e
unread_write fetch.Failed e = cc e
unread_write (fetch.Memory x) e = cc e

pub unread_usage : (f : FetchFault) → unread_status f ≡ Usage → ⊥
unread_usage fetch.Missing e = cc e
unread_usage (fetch.TooLarge bytes) e = cc e
unread_usage fetch.Failed e = cc e
unread_usage (fetch.Memory x) e = cc e
