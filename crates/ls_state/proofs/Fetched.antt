-- What a command does by what it fetches.
use Rattle.ls_state.proofs.Vocabulary.{[], ◌++◌, ◌<◌, ◌==◌, ◌∙◌, ◌∷◌, ◌≡◌, AllocError, Answer, AnswersStand, Bytes, Calls, Decides, Effect, Err, Failed, Fetched, FewCalls, FileFailed, IsErrAnd, IsFetched, List, Makes, Missing, NoFile, None, Ok, Refusal, Refused, Response, Result, SeesFile, Session, ShelfState, Text, Vec, ℕ, answers, ap, arith, bytes_fetched, changes_interview, false, file_refusals, in_domain, in_domain-some, length, ne_eqb, not, one_more, refl, refuse, start_read, start_row, starts_by, subst, sym, true, true≢false, Fetching}
use Rattle.ls_state.proofs.Decided.{files_stay, makes_as, makes_nothing}
use Rattle.std.specs.declared.alloc.Global.{Global}
use Rattle.std.proofs.lemmas.Result.{on_ok_weaker, on_err_weaker}
use Rattle.ls_meaning.specs.declared.request.StartFile.{StartFile}

-- one call was made, for an effect that depends on the folder
pub few_one : {effect : Calls → Effect} {calls : Calls} {before after : ShelfState} → (((a b : Calls) → effect a ≡ effect b) → ⊥) → after.calls ≡ one_more before.calls → FewCalls effect calls before after
few_one depends made = record { alone = λ one. absurd (depends one); once = λ name given one. omega (arith, made); twice = omega (arith, made) }

-- an effect that stores nothing
module _ {s : Session} (whole : Calls → Effect) (none : (calls : Calls) → (whole calls).stored ≡ None) {IsGiven IsMade : Calls → Type 0} {before after : ShelfState} (seen : Fetching IsGiven IsMade before after) (few : FewCalls whole seen.calls before after) where
  pub decides_seen : {new : Session} {r : Result Response AllocError} → Makes (whole seen.calls) s new r → Decides whole s new before after r
  decides_seen {new} {r} h = record {
    calls = seen.calls;
    sees = seen.sees;
    response = h.response;
    decided = on_ok_weaker r (λ at. record {
      session = at;
      files = λ m told. rw (none seen.calls) (files_stay before.files after.files seen.kept m told);
    }) h.session;
    undone = on_err_weaker r (λ at. (at, seen.kept)) h.undone;
    few = few;
    later = seen.later;
  }

  -- memory ran out
  pub decides_unseen : (P : AllocError → Type 0) (r : Result Response AllocError) → IsErrAnd r P → Decides whole s s before after r
  decides_unseen P (Ok x) e = absurd e
  decides_unseen P (Err x) e = decides_seen makes_nothing

-- the folder gives no file, or none that can be fetched
abbrev pub calls_missing : Calls
calls_missing = record { file = λ _. Missing; failed = false }

abbrev pub calls_failed : Calls
calls_failed = record { file = λ _. Failed; failed = true }

pub refused_apart : (s : Session) → answers s (Refused NoFile) ≡ answers s (Refused FileFailed) → ⊥
refused_apart s e =
    let told : Refused NoFile ≡ Refused FileFailed = ap (λ (e : Effect). e.response) e in
    cc told

-- A refusal of the file is all that is told of it; one that is missing and one that could not be fetched are refused by different ones.
module _ {s : Session} (whole : Fetched → Effect) (effect : List Refusal → List ℕ → Effect) (same : (given : Fetched) → whole given ≡ effect (file_refusals given) (bytes_fetched given))
    (refuses : (refusal : Refusal) (bytes : List ℕ) → effect (refusal ∷ []) bytes ≡ answers s (Refused refusal)) (stores_none : (refusals : List Refusal) (bytes : List ℕ) → (effect refusals bytes).stored ≡ None) where
  depends : (name : Text) → ((a b : Calls) → whole (a.file name) ≡ whole (b.file name)) → ⊥
  depends name one = refused_apart s (sym (same Missing ∙ refuses NoFile []) ∙ one calls_missing calls_failed ∙ same Failed ∙ refuses FileFailed [])

  none : (name : Text) (calls : Calls) → (whole (calls.file name)).stored ≡ None
  none name calls = let given = calls.file name in ap (λ (e : Effect). e.stored) (same given) ∙ stores_none (file_refusals given) (bytes_fetched given)

  -- memory ran out
  pub decides_unfetched : (name : Text) {IsGiven : Calls → Type 0} {before after : ShelfState} (seen : Fetching IsGiven (λ calls. after.calls ≡ one_more before.calls) before after) (P : AllocError → Type 0) (r : Result Response AllocError) → IsErrAnd r P → Decides (λ calls. whole (calls.file name)) s s before after r
  decides_unfetched name seen P r e = decides_unseen (λ calls. whole (calls.file name)) (none name) seen (few_one (depends name) seen.made) P r e

  module _ {name : Text} {before after : ShelfState} {fetched : Result (Result (Vec ℕ Global) Refusal) AllocError} (seen : SeesFile name before after fetched) where
    -- the bytes were fetched
    pub decides_read : {bytes : Vec ℕ Global} {new : Session} {r : Result Response AllocError} → fetched ≡ Ok (Ok bytes) → Makes (effect [] bytes.items) s new r → Decides (λ calls. whole (calls.file name)) s new before after r
    decides_read {bytes} {new} {r} is h =
        let given : seen.calls.file name ≡ Bytes bytes.items = subst (IsFetched (seen.calls.file name)) is seen.given in
        decides_seen (λ calls. whole (calls.file name)) (none name) seen (few_one (depends name) seen.made) (makes_as (ap whole given ∙ same (Bytes bytes.items)) h)

    -- or refused
    pub decides_unread : {refusal : Refusal} → fetched ≡ Ok (Err refusal) → Decides (λ calls. whole (calls.file name)) s s before after (Ok (Refused refusal))
    decides_unread {refusal} is =
        let given = seen.calls.file name in
        let refused : file_refusals given ≡ refusal ∷ [] = subst (IsFetched given) is seen.given in
        decides_seen (λ calls. whole (calls.file name)) (none name) seen (few_one (depends name) seen.made)
        (makes_as (same given ∙ ap (λ (rs : List Refusal). effect rs (bytes_fetched given)) refused ∙ refuses refusal (bytes_fetched given))
        (record { response = refl; session = refl; undone = tt }))

-- ---- a start from a file

abbrev pub loads : StartFile → Session → Fetched → Effect
loads kind s given = in_domain s (changes_interview s (start_row kind s given))

abbrev pub starts : StartFile → Session → List Refusal → List ℕ → Effect
starts kind s refusals bytes = changes_interview s (starts_by kind s.interview refusals (start_read kind s.names bytes))

module _ (kind : StartFile) (s : Session) (some : 0 < length s.names) where
  -- an answer stands
  pub loads-stands : (length s.interview.answers == 0) ≡ false → (given : Fetched) → loads kind s given ≡ answers s (Refused AnswersStand)
  loads-stands stands given =
      in_domain-some s _ some ∙ ap (λ b. changes_interview s (starts_by kind s.interview (refuse AnswersStand (not b) ++ file_refusals given) (start_read kind s.names (bytes_fetched given)))) stands

  -- or none does
  pub loads-starts : (length s.interview.answers == 0) ≡ true → (given : Fetched) → loads kind s given ≡ starts kind s (file_refusals given) (bytes_fetched given)
  loads-starts none given =
      in_domain-some s _ some ∙ ap (λ b. changes_interview s (starts_by kind s.interview (refuse AnswersStand (not b) ++ file_refusals given) (start_read kind s.names (bytes_fetched given)))) none

pub no_answers : (answers : List Answer) → (length answers == 0) ≡ true → answers ≡ []
no_answers [] e = refl
no_answers (a ∷ answers) e = absurd (true≢false (sym e ∙ ne_eqb (length (a ∷ answers)) 0 (λ e. omega arith)))
