-- What the fetches of two files let a command see.
use Rattle.ls_deciding.proofs.Vocabulary.{◌++◌, ◌∙◌, ◌∷◌, ◌≡◌, Bool, Err, List, None, Ok, Option, Result, Some, Vec, ℕ, [], ap, arith, bytes_eq, cond, false, inl, inr, length, ltb, one_more, refl, subst, sym, true, AllocError, FailedLast, Folder, FolderStays, longest_file, Text, Bytes, Calls, Failed, Fetched, Missing, TooLarge, calls_of, fetched_from, file_refusals, Refusal, FileFailed, AreFetched, GaveBytes, IsFetched, SeesFile, SeesFiles, ShelfState}
use Rattle.std.specs.Prelude.{IsErrAnd}
use Rattle.ls_deciding.proofs.Seen.{failed_from, files_stay}
use Rattle.ls_deciding.specs.declared.meshes.TwoFiles.{TwoFiles}
use Rattle.std.specs.declared.alloc.Global.{Global}
use Rattle.std.specs.FinMap as map

-- ---- what the second fetch told, behind the bytes of the first

abbrev pub both_of : Vec ℕ Global → Result (Result (Vec ℕ Global) Refusal) AllocError → Result (Result TwoFiles Refusal) AllocError
both_of left (Ok (Ok right)) = Ok (Ok (record { left = left; right = Some right }))
both_of left (Ok (Err refusal)) = Ok (Err refusal)
both_of left (Err e) = Err e

abbrev is_failed : Fetched → Bool
is_failed (Bytes bytes) = false
is_failed Missing = false
is_failed (TooLarge n) = false
is_failed Failed = true

failed_is : (given : Fetched) → is_failed given ≡ true → given ≡ Failed
failed_is (Bytes bytes) e = absurd (cc e)
failed_is Missing e = absurd (cc e)
failed_is (TooLarge n) e = absurd (cc e)
failed_is Failed e = refl

unfailed : (given : Fetched) → is_failed given ≡ false → given ≡ Failed → ⊥
unfailed (Bytes bytes) e f = cc f
unfailed Missing e f = cc f
unfailed (TooLarge n) e f = cc f
unfailed Failed e f = cc e

-- the second file was refused, or not
second_given : (left : Vec ℕ Global) (given : Fetched) (fetched : Result (Result (Vec ℕ Global) Refusal) AllocError) → IsFetched given fetched → AreFetched (Bytes left.items) given (both_of left fetched)
second_given left given (Ok (Ok right)) h = (refl, h)
second_given left given (Ok (Err refusal)) h = ([], h)
second_given left given (Err e) h = tt

-- the call for it failed, so that both are told as files whose call failed
second_failed : (left : Vec ℕ Global) (fetched : Result (Result (Vec ℕ Global) Refusal) AllocError) → IsFetched Failed fetched → AreFetched Failed Failed (both_of left fetched)
second_failed left (Ok (Ok right)) h = absurd (cc h)
second_failed left (Ok (Err refusal)) h = (FileFailed ∷ [], ap (λ (rs : List Refusal). rs ++ FileFailed ∷ []) h)
second_failed left (Err e) h = tt

-- ---- files of a told folder

-- bytes are given where no call failed, and where one did the file is told as one whose call failed
given_bytes : (failed : Bool) (o : Option (List ℕ)) (bytes : List ℕ) → fetched_from failed o ≡ Bytes bytes → (fetched_from false o ≡ Bytes bytes) × (fetched_from true o ≡ Failed)
given_bytes failed None bytes e = absurd (cc e)
given_bytes failed (Some found) bytes e =
    elim (ltb longest_file (length found)) as (λ t. cond t (TooLarge (length found)) (cond failed Failed (Bytes found)) ≡ Bytes bytes → (cond t (TooLarge (length found)) (Bytes found) ≡ Bytes bytes) × (cond t (TooLarge (length found)) Failed ≡ Failed)) [
      | true ↦ λ e. absurd (cc e)
      | false ↦ λ e. unmarked failed e
    ] e
  where
    unmarked : (b : Bool) → cond b Failed (Bytes found) ≡ Bytes bytes → (Bytes found ≡ Bytes bytes) × (Failed ≡ Failed)
    unmarked true e = absurd (cc e)
    unmarked false e = (e, refl)

-- what isn't told as failed is told so whether a call failed or not
given_alike : (failed : Bool) (o : Option (List ℕ)) → is_failed (fetched_from failed o) ≡ false → fetched_from false o ≡ fetched_from failed o
given_alike false o e = refl
given_alike true None e = refl
given_alike true (Some found) e =
    elim (ltb longest_file (length found)) as (λ t. is_failed (cond t (TooLarge (length found)) Failed) ≡ false → cond t (TooLarge (length found)) (Bytes found) ≡ cond t (TooLarge (length found)) Failed) [ true ↦ λ e. refl | false ↦ λ e. absurd (cc e) ] e

given_failed : (failed : Bool) (o : Option (List ℕ)) → fetched_from failed o ≡ Failed → fetched_from true o ≡ Failed
given_failed failed o e = subst (λ b. fetched_from b o ≡ Failed) (failed_from failed o e) e

-- ---- the calls of a line that fetches two files

module _ (left : Vec ℕ Global) (first second : Text) (given : Fetched) where
  -- where files aren't told
  abbrev calls_untold : Bool → Calls
  calls_untold true = record { file = λ name. Failed; failed = true }
  calls_untold false = record { file = λ name. cond (bytes_eq first name) (Bytes left.items) given; failed = false }

  abbrev calls_by : Option Folder → Calls
  calls_by None = calls_untold (is_failed given)
  calls_by (Some m) = calls_of m (is_failed given)

  untold-failed : (b : Bool) → is_failed given ≡ b → (name : Text) → (calls_untold b).file name ≡ Failed → b ≡ true
  untold-failed true is name e = refl
  untold-failed false is name e =
      absurd (elim (bytes_eq first name) as (λ t. cond t (Bytes left.items) given ≡ Failed → ⊥) [ true ↦ λ e. cc e | false ↦ λ e. unfailed given is e ] e)

  untold-gave : (b : Bool) → bytes_eq first first ≡ true → GaveBytes ((calls_untold b).file first)
  untold-gave true same = tt
  untold-gave false same = rw same tt

  told-gave : (m : Folder) (b : Bool) → fetched_from b (map.get m first) ≡ Bytes left.items → (f : Bool) → GaveBytes (fetched_from f (map.get m first))
  told-gave m b at_first true = rw (given_bytes b (map.get m first) left.items at_first).1 tt
  told-gave m b at_first false = rw (given_bytes b (map.get m first) left.items at_first).0 tt

  untold-given : (b : Bool) → is_failed given ≡ b → bytes_eq first first ≡ true → bytes_eq first second ≡ false → (fetched : Result (Result (Vec ℕ Global) Refusal) AllocError) → IsFetched given fetched
      → AreFetched ((calls_untold b).file first) ((calls_untold b).file second) (both_of left fetched)
  untold-given true is same other fetched h = second_failed left fetched (subst (λ g. IsFetched g fetched) (failed_is given is) h)
  untold-given false is same other fetched h = rw (same, other) (second_given left given fetched h)

  told-given : (m : Folder) (b c : Bool) → fetched_from b (map.get m first) ≡ Bytes left.items → given ≡ fetched_from c (map.get m second) → (fetched : Result (Result (Vec ℕ Global) Refusal) AllocError) → IsFetched given fetched
      → (f : Bool) → is_failed given ≡ f → AreFetched (fetched_from f (map.get m first)) (fetched_from f (map.get m second)) (both_of left fetched)
  told-given m b c at_first at_second fetched h true is =
      let failed : given ≡ Failed = failed_is given is in
      rw ((given_bytes b (map.get m first) left.items at_first).1, given_failed c (map.get m second) (sym at_second ∙ failed))
      (second_failed left fetched (subst (λ g. IsFetched g fetched) failed h))
  told-given m b c at_first at_second fetched h false is =
      rw ((given_bytes b (map.get m first) left.items at_first).0, given_alike c (map.get m second) (ap is_failed (sym at_second) ∙ is) ∙ sym at_second)
      (second_given left given fetched h)

-- the first file gave bytes, and then the second was fetched, which has another name
pub sees_files : {before between after : ShelfState} (first second : Text) (left : Vec ℕ Global) (fetched : Result (Result (Vec ℕ Global) Refusal) AllocError) → bytes_eq first first ≡ true → bytes_eq first second ≡ false
    → SeesFile first before between (Ok (Ok left)) → SeesFile second between after fetched → SeesFiles first second before after (both_of left fetched)
sees_files {before} {between} {after} first second left fetched same other seen then =
    let given = then.calls.file second in
    let failed : is_failed given ≡ true → FailedLast before after = λ is. since (then.sees.cause (then.sees.failed second (failed_is given is))) in
    go before.files refl failed
  where
    since : FailedLast between after → FailedLast before after
    since h = (let rose = h.0 in omega (arith, rose, seen.later), h.1)

    twice : after.calls ≡ one_more (one_more before.calls)
    twice = then.made ∙ ap (λ n. one_more n) seen.made

    go : (folder : Option Folder) → before.files ≡ folder → (is_failed (then.calls.file second) ≡ true → FailedLast before after) → SeesFiles first second before after (both_of left fetched)
    go None none failed =
        let given = then.calls.file second in
        record {
          calls = calls_untold left first second given (is_failed given);
          sees = record {
            told = λ m e. absurd (cc (sym none ∙ e));
            failed = λ name e. untold_is (is_failed given) refl name e;
            cause = λ e. failed (untold_mark (is_failed given) e);
          };
          given = untold-given left first second given (is_failed given) refl same other fetched then.given;
          made = inr (twice, other, untold-gave left first second given (is_failed given) same);
          kept = subst (λ o. FolderStays o after.files) (sym none) tt;
          later = omega (arith, seen.later, then.later);
        }
      where
        untold_is : (b : Bool) → is_failed (then.calls.file second) ≡ b → (name : Text) → (calls_untold left first second (then.calls.file second) b).file name ≡ Failed → (calls_untold left first second (then.calls.file second) b).failed ≡ true
        untold_is true is name e = refl
        untold_is false is name e = absurd (cc (untold-failed left first second (then.calls.file second) false is name e))

        untold_mark : (b : Bool) → (calls_untold left first second (then.calls.file second) b).failed ≡ true → b ≡ true
        untold_mark true e = refl
        untold_mark false e = e
    go (Some m) some failed =
        let given = then.calls.file second in
        let at_first = sym (seen.sees.told m some first) ∙ seen.given in
        let kept : between.files ≡ Some m = files_stay before.files between.files seen.kept m some in
        record {
          calls = calls_of m (is_failed given);
          sees = record {
            told = λ k e name. ap (λ (x : Folder). (calls_of x (is_failed given)).file name) (let at : m ≡ k = cc (sym some ∙ e) in at);
            failed = λ name e. failed_from (is_failed given) (map.get m name) e;
            cause = failed;
          };
          given = told-given left first second given m seen.calls.failed then.calls.failed at_first (then.sees.told m kept second) fetched then.given (is_failed given) refl;
          made = inr (twice, other, told-gave left first second given m seen.calls.failed at_first (is_failed given));
          kept = subst (λ o. FolderStays o after.files) (sym some) (files_stay between.files after.files then.kept m kept);
          later = omega (arith, seen.later, then.later);
        }

-- the first was refused, or memory ran out
pub sees_first : {before after : ShelfState} (first second : Text) (refusal : Refusal) → SeesFile first before after (Ok (Err refusal)) → SeesFiles first second before after (Ok (Err refusal))
sees_first {before} {after} first second refusal seen = record {
  calls = seen.calls;
  sees = seen.sees;
  given = (file_refusals (seen.calls.file second), ap (λ (rs : List Refusal). rs ++ file_refusals (seen.calls.file second)) seen.given);
  made = inl seen.made;
  kept = seen.kept;
  later = seen.later;
}

-- memory ran out: whatever was given
pub sees_err : {before after : ShelfState} (first second : Text) (given : Result (Result TwoFiles Refusal) AllocError) (P : AllocError → Type 0) (r : Result (Result TwoFiles Refusal) AllocError) → SeesFiles first second before after given → IsErrAnd r P → SeesFiles first second before after r
sees_err first second given P r seen e = record {
  calls = seen.calls;
  sees = seen.sees;
  given = err_given r e;
  made = seen.made;
  kept = seen.kept;
  later = seen.later;
}
  where
    err_given : (r : Result (Result TwoFiles Refusal) AllocError) → IsErrAnd r P → AreFetched (seen.calls.file first) (seen.calls.file second) r
    err_given (Ok x) e = absurd e
    err_given (Err x) e = tt
