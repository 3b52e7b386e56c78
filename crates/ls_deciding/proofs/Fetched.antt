-- What a fetch lets a command see.
use Rattle.ls_deciding.proofs.Vocabulary.{◌≡◌, ◌↔◌, AllocError, Bool, Bytes, Err, Failed, FetchCause, Fetched, FetchedFrom, Fetches, FileFailed, Folder, GivesBytes, IsErrOf, IsFetched, LargeFile, List, MatchResult, Missing, NoFile, None, Ok, Option, Refusal, Result, SeesFile, ShelfState, Some, Text, TooLarge, Vec, ℕ, ap, cond, false, fetched_from, length, longest_file, ltb, one_more, refl, subst, sym, true}
use Rattle.ls_deciding.proofs.Seen.{calls_told, sees_told}
use Rattle.std.specs.declared.alloc.Global.{Global}
use Rattle.std.specs.FinMap as map
use Rattle.ls_edge.specs.declared.traits.FetchFault.{FetchFault}
use Rattle.ls_edge.specs.declared.traits.FetchFault.TheVariants as fetch

-- ---- what a shelf answered, as a command gets it, and as a call gives it

abbrev pub answer_of : Result (Vec ℕ Global) FetchFault → Result (Result (Vec ℕ Global) Refusal) AllocError
answer_of (Ok bytes) = Ok (Ok bytes)
answer_of (Err fetch.Missing) = Ok (Err NoFile)
answer_of (Err (fetch.TooLarge length)) = Ok (Err (LargeFile length))
answer_of (Err fetch.Failed) = Ok (Err FileFailed)
answer_of (Err (fetch.Memory e)) = Err e

abbrev given_by : Result (Vec ℕ Global) FetchFault → Fetched
given_by (Ok bytes) = Bytes bytes.items
given_by (Err fetch.Missing) = Missing
given_by (Err (fetch.TooLarge length)) = TooLarge length
given_by (Err fetch.Failed) = Failed
given_by (Err (fetch.Memory e)) = Missing

abbrev is_failed : Result (Vec ℕ Global) FetchFault → Bool
is_failed (Err fetch.Failed) = true
is_failed r = false

failed_only : (r : Result (Vec ℕ Global) FetchFault) → is_failed r ≡ true → IsErrOf r fetch.Failed
failed_only (Ok v) e = absurd (cc e)
failed_only (Err fetch.Missing) e = absurd (cc e)
failed_only (Err (fetch.TooLarge n)) e = absurd (cc e)
failed_only (Err fetch.Failed) e = refl
failed_only (Err (fetch.Memory x)) e = absurd (cc e)

given_failed : (r : Result (Vec ℕ Global) FetchFault) → given_by r ≡ Failed → is_failed r ≡ true
given_failed (Ok v) e = absurd (cc e)
given_failed (Err fetch.Missing) e = absurd (cc e)
given_failed (Err (fetch.TooLarge n)) e = absurd (cc e)
given_failed (Err fetch.Failed) e = refl
given_failed (Err (fetch.Memory x)) e = absurd (cc e)

-- ---- of the file that was fetched, the line sees what was fetched

fetched_is : (r : Result (Vec ℕ Global) FetchFault) → IsFetched (given_by r) (answer_of r)
fetched_is (Ok v) = refl
fetched_is (Err fetch.Missing) = refl
fetched_is (Err (fetch.TooLarge n)) = refl
fetched_is (Err fetch.Failed) = refl
fetched_is (Err (fetch.Memory e)) = tt

bytes_are : (r : Result (Vec ℕ Global) FetchFault) (bytes : List ℕ) → GivesBytes bytes r → IsFetched (cond (is_failed r) Failed (Bytes bytes)) (answer_of r)
bytes_are (Ok v) bytes h = ap Bytes (sym h)
bytes_are (Err fetch.Missing) bytes h = absurd h
bytes_are (Err (fetch.TooLarge n)) bytes h = absurd h
bytes_are (Err fetch.Failed) bytes h = refl
bytes_are (Err (fetch.Memory e)) bytes h = tt

told_is : (o : Option (List ℕ)) (r : Result (Vec ℕ Global) FetchFault) → FetchedFrom o r → IsFetched (fetched_from (is_failed r) o) (answer_of r)
told_is None r h = subst (λ x. IsFetched Missing (answer_of x)) (sym h) refl
told_is (Some bytes) r h =
    elim (ltb longest_file (length bytes)) as (λ t. MatchResult (cond t (Err (fetch.TooLarge (length bytes))) (Ok bytes)) (λ b. GivesBytes b r) (λ e. r ≡ Err e) → IsFetched (cond t (TooLarge (length bytes)) (cond (is_failed r) Failed (Bytes bytes))) (answer_of r)) [
      | true ↦ λ e. subst (λ x. IsFetched (TooLarge (length bytes)) (answer_of x)) (sym e) refl
      | false ↦ λ g. bytes_are r bytes g
    ] h

seen_is : (folder left : Option Folder) (name : Text) (r : Result (Vec ℕ Global) FetchFault) → Fetches folder left name r → IsFetched ((calls_told folder (given_by r) (is_failed r)).file name) (answer_of r)
seen_is None left name r h = fetched_is r
seen_is (Some m) left name r h = told_is (map.get m name) r h.1

-- what was answered of the file of a name, by the name that was passed
pub sees_file : {before after : ShelfState} {name passed : Text} {r answered : Result (Vec ℕ Global) FetchFault} → passed ≡ name → Fetches before.files after.files passed r → FetchCause before.faults after.faults r → after.calls ≡ one_more before.calls → (IsErrOf r fetch.Failed ↔ (after.failed ≡ true)) → r ≡ answered
    → SeesFile name before after (answer_of answered)
sees_file {before} {after} {name} {passed} {r} {answered} same fetches cause made last is =
    subst (λ x. SeesFile name before after (answer_of x)) is (subst (λ (n : Text). SeesFile n before after (answer_of r)) same (record {
      calls = calls_told before.files (given_by r) (is_failed r);
      sees = sees_told before after (given_by r) (is_failed r) (given_failed r) (λ f. (cause.failed (failed_only r f), last.0 (failed_only r f)));
      given = seen_is before.files after.files passed r fetches;
      made = made;
      kept = fetches.0;
      later = cause.later;
    }))
