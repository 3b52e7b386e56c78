-- What is seen of the folder.
use Rattle.ls_deciding.proofs.Vocabulary.{◌∙◌, ◌≡◌, Bool, Bytes, Calls, Failed, FailedLast, Fetched, Folder, FolderStays, List, None, Option, Sees, ShelfState, Some, TooLarge, ℕ, ap, calls_of, cond, false, fetched_from, length, longest_file, ltb, refl, sym, true}
use Rattle.std.specs.FinMap as map

pub failed_from : (b : Bool) (o : Option (List ℕ)) → fetched_from b o ≡ Failed → b ≡ true
failed_from true o e = refl
failed_from false None e = absurd (cc e)
failed_from false (Some bytes) e =
    absurd (elim (ltb longest_file (length bytes)) as (λ t. cond t (TooLarge (length bytes)) (cond false Failed (Bytes bytes)) ≡ Failed → ⊥) [ true ↦ λ e. cc e | false ↦ λ e. cc e ] e)

-- what told files give, where a call failed or none did; or the one file that was given
abbrev pub calls_told : Option Folder → Fetched → Bool → Calls
calls_told None given failed = record { file = λ name. given; failed = failed }
calls_told (Some m) given failed = calls_of m failed

pub calls_told-failed : (folder : Option Folder) (given : Fetched) (failed : Bool) → (calls_told folder given failed).failed ≡ failed
calls_told-failed None given failed = refl
calls_told-failed (Some m) given failed = refl

pub sees_told : (before after : ShelfState) (given : Fetched) (failed : Bool) → (given ≡ Failed → failed ≡ true) → (failed ≡ true → FailedLast before after) → Sees (calls_told before.files given failed) before after
sees_told before after given failed is cause = go before.files refl
  where
    go : (folder : Option Folder) → before.files ≡ folder → Sees (calls_told folder given failed) before after
    go None none = record { told = λ m e. absurd (cc (sym none ∙ e)); failed = λ name e. is e; cause = cause }
    go (Some m) some = record {
      told = λ k e name. ap (λ (x : Folder). (calls_of x failed).file name) (let same : m ≡ k = cc (sym some ∙ e) in same);
      failed = λ name e. failed_from failed (map.get m name) e;
      cause = cause;
    }

-- told files stay as they were
pub files_stay : (folder left : Option Folder) → FolderStays folder left → (m : Folder) → folder ≡ Some m → left ≡ Some m
files_stay None left h m e = absurd (cc e)
files_stay (Some k) left h m e = h ∙ e
