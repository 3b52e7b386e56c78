-- A command that stores a file.
use Rattle.ls_state.proofs.Vocabulary.{◌++◌, ◌<◌, ◌∙◌, ◌≡◌, ◌≤◌, ◌↔◌, AllocError, Bool, Calls, Decides, Done, Effect, Err, FailedLast, FileFailed, Folder, FolderStays, IsErrOf, LargeFile, List, Missing, None, Ok, Option, Refused, Response, Result, Sees, Session, ShelfState, Some, StoreCause, Stores, ℕ, answers, ap, false, le-ltb, length, longest_file, lt-ltb, one_more, refl, refuse, save_row, saved, session_text, stores, subst, sym, true}
use Rattle.ls_state.proofs.Fetched.{few_one}
use Rattle.ls_deciding.proofs.Seen.{calls_told, calls_told-failed, files_stay, sees_told}
use Rattle.std.specs.FinMap as map
use Rattle.ls_edge.specs.declared.traits.StoreFault.{StoreFault}
use Rattle.ls_edge.specs.declared.traits.StoreFault.TheVariants as store

module _ (s : Session) (name text : List ℕ) where
  abbrev effect : Bool → Effect
  effect failed = stores s (refuse FileFailed failed) name text

  depends : ((a b : Calls) → effect a.failed ≡ effect b.failed) → ⊥
  depends one =
      let same : effect true ≡ effect false = one (record { file = λ _. Missing; failed = true }) (record { file = λ _. Missing; failed = false }) in
      let both : Refused FileFailed ≡ Done (length text) = ap (λ (e : Effect). e.response) same in
      cc both

  inserted : (folder left : Option Folder) (u : Unit {0}) → Stores folder left name text (Ok u) → (m : Folder) → folder ≡ Some m → left ≡ Some (map.insert m name text)
  inserted None left u h m e = absurd (cc e)
  inserted (Some k) left u h m e = h ∙ ap (λ (x : Folder). Some (map.insert x name text)) (let same : k ≡ m = cc e in same)

  kept : (folder left : Option Folder) (e : StoreFault) → Stores folder left name text (Err e) → FolderStays folder left
  kept None left e h = tt
  kept (Some k) left e h = h

  module _ (before after : ShelfState) (later : before.faults ≤ after.faults) (made : after.calls ≡ one_more before.calls) where
    -- that a call failed is seen, and is told
    abbrev calls_seen : Bool → Calls
    calls_seen failed = calls_told before.files Missing failed

    sees : (failed : Bool) → (failed ≡ true → FailedLast before after) → Sees (calls_seen failed) before after
    sees failed cause = sees_told before after Missing failed (λ e. absurd (cc e)) cause

    seen : (failed : Bool) → effect (calls_seen failed).failed ≡ effect failed
    seen failed = ap effect (calls_told-failed before.files Missing failed)

    abbrev Decided : Result Response AllocError → Type 0
    Decided r = Decides (λ calls. effect calls.failed) s s before after r

    stored : (u : Unit {0}) → Stores before.files after.files name text (Ok u) → Decided (Ok (Done (length text)))
    stored u h = record {
      calls = calls_seen false;
      sees = sees false (λ e. absurd (cc e));
      response = sym (ap (λ (e : Effect). e.response) (seen false));
      decided = record {
        session = sym (ap (λ (e : Effect). e.session) (seen false));
        files = λ m told. rw (ap (λ (e : Effect). e.stored) (seen false)) (inserted before.files after.files u h m told);
      };
      undone = tt;
      few = few_one depends made;
      later = later;
    }

    failed : Stores before.files after.files name text (Err store.Failed) → FailedLast before after → Decided (Ok (Refused FileFailed))
    failed h cause = record {
      calls = calls_seen true;
      sees = sees true (λ e. cause);
      response = sym (ap (λ (e : Effect). e.response) (seen true));
      decided = record {
        session = sym (ap (λ (e : Effect). e.session) (seen true));
        files = λ m told. rw (ap (λ (e : Effect). e.stored) (seen true)) (files_stay before.files after.files (kept before.files after.files store.Failed h) m told);
      };
      undone = tt;
      few = few_one depends made;
      later = later;
    }

    unstored : (e : AllocError) → Stores before.files after.files name text (Err (store.Memory e)) → Decided (Err e)
    unstored e h = record {
      calls = calls_seen false;
      sees = sees false (λ e. absurd (cc e));
      response = tt;
      decided = tt;
      undone = (refl, kept before.files after.files (store.Memory e) h);
      few = few_one depends made;
      later = later;
    }

-- what was answered of the file of a name, by the name that was passed
stored_as : {name passed : List ℕ} (text : List ℕ) (folder left : Option Folder) {answered r : Result (Unit {0}) StoreFault} → passed ≡ name → answered ≡ r → Stores folder left passed text answered → Stores folder left name text r
stored_as {name} {passed} text folder left {answered} {r} same is h = subst (λ x. Stores folder left name text x) is (subst (λ (n : List ℕ). Stores folder left n text answered) same h)

module _ (s : Session) (name passed text : List ℕ) (before after : ShelfState) (answered : Result (Unit {0}) StoreFault) (same : passed ≡ name) (stores_it : Stores before.files after.files passed text answered) (cause : StoreCause before.faults after.faults answered) (made : after.calls ≡ one_more before.calls) (last : IsErrOf answered store.Failed ↔ (after.failed ≡ true)) where
  pub decides_stored : (u : Unit {0}) → answered ≡ Ok u → Decides (λ calls. stores s (refuse FileFailed calls.failed) name text) s s before after (Ok (Done (length text)))
  decides_stored u is = stored s name text before after cause.later made u (stored_as text before.files after.files same is stores_it)

  pub decides_failed : answered ≡ Err store.Failed → Decides (λ calls. stores s (refuse FileFailed calls.failed) name text) s s before after (Ok (Refused FileFailed))
  decides_failed is = failed s name text before after cause.later made (stored_as text before.files after.files same is stores_it) (cause.failed is, last.0 is)

  pub decides_unstored : (e : AllocError) → answered ≡ Err (store.Memory e) → Decides (λ calls. stores s (refuse FileFailed calls.failed) name text) s s before after (Err e)
  decides_unstored e is = unstored s name text before after cause.later made e (stored_as text before.files after.files same is stores_it)

-- ---- `save`

module _ (s : Session) (name : List ℕ) where
  abbrev by_test : Bool → Bool → Effect
  by_test long failed = stores s (refuse (LargeFile (length (session_text (saved s)))) long ++ refuse FileFailed failed) name (session_text (saved s))

  pub save_long : longest_file < length (session_text (saved s)) → (failed : Bool) → save_row s failed name ≡ answers s (Refused (LargeFile (length (session_text (saved s)))))
  save_long long failed = ap (λ b. by_test b failed) (lt-ltb longest_file (length (session_text (saved s))) long)

  pub save_short : length (session_text (saved s)) ≤ longest_file → (failed : Bool) → save_row s failed name ≡ stores s (refuse FileFailed failed) name (session_text (saved s))
  save_short short failed = ap (λ b. by_test b failed) (le-ltb longest_file (length (session_text (saved s))) short)
