-- What a command does by two files.
use Rattle.ls_state.proofs.Vocabulary.{[], ◌++◌, ◌∙◌, ◌∷◌, ◌≡◌, AllocError, Bool, Bytes, Calls, Decides, Effect, Err, Failed, FewCalls, Fetched, FileFailed, GaveBytes, IsErrAnd, List, Makes, Missing, NoFile, None, Ok, Refusal, Refused, Response, Result, Session, ShelfState, Text, ℕ, answers, ap, ap₂, arith, bytes_eq, bytes_fetched, cond, false, file_refusals, inl, inr, refl, subst, sym, true, AreFetched, AreMade, Fetching, SeesFiles, TooLarge}
use Rattle.ls_state.proofs.Decided.{makes_as}
use Rattle.ls_state.proofs.Fetched.{calls_failed, calls_missing, decides_seen, decides_unseen, few_one, refused_apart}
use Rattle.std.proofs.lemmas.Slice.Eq.{bytes_eq-Decides}
use Rattle.ls_deciding.specs.TwoFiles.{right_bytes}
use Rattle.ls_deciding.specs.declared.meshes.TwoFiles.{TwoFiles}
use Rattle.ls_meaning.specs.MeshRows.{two_files}

-- a file that gave bytes, and is not told as one whose call failed, is not refused
gave-unrefused : (given : Fetched) → GaveBytes given → (given ≡ Failed → ⊥) → file_refusals given ≡ []
gave-unrefused (Bytes bytes) gave unfailed = refl
gave-unrefused Missing gave unfailed = absurd gave
gave-unrefused (TooLarge n) gave unfailed = absurd gave
gave-unrefused Failed gave unfailed = absurd (unfailed refl)

module _ {s : Session} (whole : Fetched → Fetched → Effect) (effect : List Refusal → List ℕ → List ℕ → Effect)
    (same : (left right : Fetched) → whole left right ≡ effect (two_files left right) (bytes_fetched left) (bytes_fetched right))
    (refuses : (refusal : Refusal) (rest : List Refusal) (left right : List ℕ) → effect (refusal ∷ rest) left right ≡ answers s (Refused refusal))
    (stores_none : (refusals : List Refusal) (left right : List ℕ) → (effect refusals left right).stored ≡ None) (first second : Text) where
  abbrev seen_by : Calls → Effect
  seen_by calls = whole (calls.file first) (calls.file second)

  refused : {left right : Fetched} (refusal : Refusal) {rest : List Refusal} → two_files left right ≡ refusal ∷ rest → whole left right ≡ answers s (Refused refusal)
  refused {left} {right} refusal {rest} is =
      same left right ∙ ap (λ (rs : List Refusal). effect rs (bytes_fetched left) (bytes_fetched right)) is ∙ refuses refusal rest (bytes_fetched left) (bytes_fetched right)

  apart : {a b c d : Fetched} {xs ys : List Refusal} → two_files a b ≡ NoFile ∷ xs → two_files c d ≡ FileFailed ∷ ys → whole a b ≡ whole c d → ⊥
  apart none failed one = refused_apart s (sym (refused NoFile none) ∙ one ∙ refused FileFailed failed)

  depends : ((a b : Calls) → seen_by a ≡ seen_by b) → ⊥
  depends one = apart {a = Missing} {b = Missing} {c = Failed} {d = Failed} refl refl (one calls_missing calls_failed)

  none : (calls : Calls) → (seen_by calls).stored ≡ None
  none calls =
      let left = calls.file first in
      let right = calls.file second in
      ap (λ (e : Effect). e.stored) (same left right) ∙ stores_none (two_files left right) (bytes_fetched left) (bytes_fetched right)

  -- ---- what one file gives does not decide it, where the second was fetched

  -- the first file gives this, and all others that
  abbrev mixed : Fetched → Fetched → Calls
  mixed left right = record { file = λ name. cond (bytes_eq first name) left right; failed = false }

  module _ (other : bytes_eq first second ≡ false) (calls : Calls) (gave : GaveBytes (calls.file first)) (name : Text) (unfailed : calls.file name ≡ Failed → ⊥) (one : (b : Calls) → b.file name ≡ calls.file name → seen_by b ≡ seen_by calls) where
    seen-mixed : (left right : Fetched) → seen_by (mixed left right) ≡ whole left right
    seen-mixed left right = rw ((bytes_eq-Decides first first).1 refl, other) refl

    alike : (left right more again : Fetched) → (mixed left right).file name ≡ calls.file name → (mixed more again).file name ≡ calls.file name → whole left right ≡ whole more again
    alike left right more again is also = sym (seen-mixed left right) ∙ one (mixed left right) is ∙ sym (one (mixed more again) also) ∙ seen-mixed more again

    undecided : ⊥
    undecided = go (bytes_eq first name) refl
      where
        go : (b : Bool) → bytes_eq first name ≡ b → ⊥
        go true is =
            let at : calls.file first ≡ calls.file name = ap calls.file ((bytes_eq-Decides first name).0 is) in
            let given = calls.file first in
            let bytes = gave-unrefused given gave (λ e. unfailed (sym at ∙ e)) in
            apart {a = given} {b = Missing} {c = given} {d = Failed} (ap (λ (rs : List Refusal). rs ++ NoFile ∷ []) bytes) (ap (λ (rs : List Refusal). rs ++ FileFailed ∷ []) bytes)
            (alike given Missing given Failed (rw is at) (rw is at))
        go false is =
            let given = calls.file name in
            apart {a = Missing} {b = given} {c = Failed} {d = given} refl refl (alike Missing given Failed given (rw is refl) (rw is refl))

  few_two : {calls : Calls} {before after : ShelfState} → AreMade first second calls before after → FewCalls seen_by calls before after
  few_two {calls} {before} {after} (inl made) = few_one depends made
  few_two {calls} {before} {after} (inr m) =
      let made = m.0 in
      record { alone = λ one. absurd (depends one); once = λ name unfailed one. absurd (undecided m.1 calls m.2 name unfailed one); twice = omega (arith, made) }

  -- memory ran out
  pub both_unfetched : {IsGiven : Calls → Type 0} {before after : ShelfState} (seen : Fetching IsGiven (λ calls. AreMade first second calls before after) before after) (P : AllocError → Type 0) (r : Result Response AllocError) → IsErrAnd r P → Decides seen_by s s before after r
  both_unfetched seen P r e = decides_unseen seen_by none seen (few_two seen.made) P r e

  module _ {before after : ShelfState} {fetched : Result (Result TwoFiles Refusal) AllocError} (seen : SeesFiles first second before after fetched) where
    -- the bytes of both were fetched
    pub both_read : {files : TwoFiles} {r : Result Response AllocError} → fetched ≡ Ok (Ok files) → Makes (effect [] files.left.items (right_bytes files)) s s r → Decides seen_by s s before after r
    both_read {files} {r} is h =
        let given = subst (AreFetched (seen.calls.file first) (seen.calls.file second)) is seen.given in
        decides_seen seen_by none seen (few_two seen.made)
        (makes_as (ap₂ whole given.0 given.1 ∙ same (Bytes files.left.items) (Bytes (right_bytes files))) h)

    -- or one was refused
    pub both_unread : {refusal : Refusal} → fetched ≡ Ok (Err refusal) → Decides seen_by s s before after (Ok (Refused refusal))
    both_unread {refusal} is =
        let left = seen.calls.file first in
        let right = seen.calls.file second in
        let given = subst (AreFetched left right) is seen.given in
        decides_seen seen_by none seen (few_two seen.made)
        (makes_as (refused refusal given.1) (record { response = refl; session = refl; undone = tt }))
