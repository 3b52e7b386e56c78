-- What is decided, by what is made.
use Rattle.ls_state.proofs.Vocabulary.{[], ◌<◌, ◌∙◌, ◌∷◌, ◌≡◌, AllocError, Bool, Calls, Change, Command, Decides, EditCommand, Effect, Err, Folder, FewCalls, FolderStays, IfOk, Interview, IsAfterLine, IsDecided, IsErrAnd, List, Makes, MakesChange, Missing, None, Ok, OnOk, Option, PupilCommand, Refused, Response, Result, Sees, Session, SettingCommand, ShelfState, Some, Unnamed, ViewCommand, ℕ, answers, ap, arith, changes_interview, changes_pupils, changes_settings, command_effect, cond, edit_effect, edit_item_words, edit_of, edit_row, false, has_domain, in_domain, length, line_effect, pupil_effect, pupil_item_words, pupil_name, pupil_of, pupil_row, refl, setting_effect, setting_item_words, setting_of, setting_row, standing_session, started, subst, sym, true, unless_unnamed, unnamed, view_effect, view_item_words, view_of, view_row, SafeCommand, changes_safe, safe_effect, safe_item_words, safe_of, safe_row}
pub use Rattle.ls_deciding.proofs.Seen.{files_stay}
use Rattle.ls_deciding.proofs.Seen.{calls_told, sees_told}
use Rattle.std.proofs.lemmas.Result.{on_ok_weaker, on_err_weaker}

-- ---- where no call is made

-- told files stay as they were
same_folder : (folder : Option Folder) → FolderStays folder folder
same_folder None = tt
same_folder (Some m) = refl

abbrev calls_none : Option Folder → Calls
calls_none folder = calls_told folder Missing false

sees_none : (shelf : ShelfState) → Sees (calls_none shelf.files) shelf shelf
sees_none shelf = sees_told shelf shelf Missing false (λ e. absurd (cc e)) (λ e. absurd (cc e))

few_none : (effect : Calls → Effect) (calls : Calls) (shelf : ShelfState) → FewCalls effect calls shelf shelf
few_none effect calls shelf = record { alone = λ _. refl; once = λ name given one. omega arith; twice = omega arith }

-- ---- what is made

pub makes_as : {e f : Effect} {old new : Session} {r : Result Response AllocError} → e ≡ f → Makes f old new r → Makes e old new r
makes_as {e} {f} {old} {new} {r} same h = subst (λ x. Makes x old new r) (sym same) h

-- a response, and nothing else
pub makes_response : {s : Session} {response : Response} (r : Result Response AllocError) → IfOk r (λ x. x ≡ response) → Makes (answers s response) s s r
makes_response (Ok x) h = record { response = h; session = refl; undone = tt }
makes_response (Err e) h = record { response = tt; session = tt; undone = refl }

-- nothing, where memory ran out
pub makes_nothing : {effect : Effect} {s : Session} {e : AllocError} → Makes effect s s (Err e)
makes_nothing = record { response = tt; session = tt; undone = refl }

-- a part of the session becomes another
pub makes_interview : {s : Session} {c : Change Interview} {next : Interview} {r : Result Response AllocError} → MakesChange c s.interview next r → Makes (changes_interview s c) s (record s { interview = next }) r
makes_interview {s} {c} {next} {r} h = record {
  response = h.response;
  session = on_ok_weaker r (λ e. ap (λ (i : Interview). record s { interview = i }) e) h.next;
  undone = on_err_weaker r (λ e. ap (λ (i : Interview). record s { interview = i }) e) h.undone;
}

-- ---- what is decided

-- an effect that does not depend on the folder, and stores nothing
pub decides_made : {effect : Calls → Effect} {e : Effect} {old new : Session} {shelf : ShelfState} {r : Result Response AllocError} → ((calls : Calls) → effect calls ≡ e) → e.stored ≡ None → Makes e old new r → Decides effect old new shelf shelf r
decides_made {effect} {e} {old} {new} {shelf} {r} same none h =
    let calls = calls_none shelf.files in
    let is : effect calls ≡ e = same calls in
    record {
      calls = calls;
      sees = sees_none shelf;
      response = subst (λ (y : Effect). IfOk r (λ x. x ≡ y.response)) (sym is) h.response;
      decided = on_ok_weaker r (λ at. record {
        session = at ∙ sym (ap (λ (y : Effect). y.session) is);
        files = λ m told. rw (ap (λ (y : Effect). y.stored) is ∙ none) told;
      }) h.session;
      undone = on_err_weaker r (λ at. (at, same_folder shelf.files)) h.undone;
      few = few_none effect calls shelf;
      later = omega arith;
    }

-- an effect that is another one
pub decides_as : {effect other : Calls → Effect} {old new : Session} {before after : ShelfState} {r : Result Response AllocError} → ((calls : Calls) → effect calls ≡ other calls) → Decides other old new before after r → Decides effect old new before after r
decides_as {effect} {other} {old} {new} {before} {after} {r} same h = record {
  calls = h.calls;
  sees = h.sees;
  response = subst (λ (x : Effect). IfOk r (λ y. y ≡ x.response)) (sym (same h.calls)) h.response;
  decided = subst (λ (x : Effect). OnOk r (IsDecided x new before.files after.files)) (sym (same h.calls)) h.decided;
  undone = h.undone;
  few = record {
    alone = λ one. h.few.alone (λ a b. sym (same a) ∙ one a b ∙ same b);
    once = λ name given one. h.few.once name given (λ b e. sym (same b) ∙ one b e ∙ same h.calls);
    twice = h.few.twice;
  };
  later = h.later;
}

-- memory ran out before anything was decided
pub decides_nothing : {effect : Calls → Effect} {s : Session} {shelf : ShelfState} {e : AllocError} → Decides effect s s shelf shelf (Err e)
decides_nothing {effect} {s} {shelf} {e} = record {
  calls = calls_none shelf.files;
  sees = sees_none shelf;
  response = tt;
  decided = tt;
  undone = (refl, same_folder shelf.files);
  few = few_none effect (calls_none shelf.files) shelf;
  later = omega arith;
}

-- the same of an error that is passed on
pub decides_err : {effect : Calls → Effect} {s : Session} {shelf : ShelfState} (P : AllocError → Type 0) (r : Result Response AllocError) → IsErrAnd r P → Decides effect s s shelf shelf r
decides_err P (Ok x) h = absurd h
decides_err P (Err e) h = decides_nothing

-- the command by another name
pub decides_at : {C : Type 0} (effect : C → Calls → Effect) {c d : C} {old new : Session} {before after : ShelfState} {r : Result Response AllocError} → c ≡ d → Decides (effect d) old new before after r → Decides (effect c) old new before after r
decides_at effect {c} {d} {old} {new} {before} {after} {r} is h = subst (λ x. Decides (effect x) old new before after r) (sym is) h

-- ---- commands whose words must name items, which store nothing

asked-stored : (s : Session) (places : List ℕ) (e : Effect) → e.stored ≡ None → (in_domain s (unless_unnamed s places e)).stored ≡ None
asked-stored s places e none = go (has_domain s) places
  where
    go : (stands : Bool) (ps : List ℕ) → (cond stands (unless_unnamed s ps e) (answers s (Refused (Unnamed 0)))).stored ≡ None
    go true [] = none
    go true (p ∷ ps) = refl
    go false ps = refl

pub edit-stored : (s : Session) (c : EditCommand) → (in_domain s (edit_effect s c)).stored ≡ None
edit-stored s c = asked-stored s (unnamed s.names (edit_item_words c)) (changes_interview s (edit_row s.interview (edit_of s.names c))) refl

pub view-stored : (s : Session) (c : ViewCommand) → (in_domain s (view_effect s c)).stored ≡ None
view-stored s c = asked-stored s (unnamed s.names (view_item_words c)) (answers s (view_row s.interview (view_of s.names c))) refl

pub safe-stored : (s : Session) (c : SafeCommand) → (in_domain s (safe_effect s c)).stored ≡ None
safe-stored s c = asked-stored s (unnamed s.names (safe_item_words c)) (changes_safe s (safe_row s.interview s.safe (safe_of s.names c))) refl

pub setting-stored : (s : Session) (c : SettingCommand) → (in_domain s (setting_effect s c)).stored ≡ None
setting-stored s c = asked-stored s (unnamed s.names (setting_item_words c)) (changes_settings s (setting_row s.settings (setting_of s.names c))) refl

pub pupil-stored : (s : Session) (c : PupilCommand) → (in_domain s (pupil_effect s c)).stored ≡ None
pupil-stored s c = asked-stored s (unnamed s.names (pupil_item_words c)) (changes_pupils s (pupil_row s.interview s.settings s.pupils (pupil_name c) (pupil_of s.names c))) refl

-- ---- a command, by whether a domain stands

-- a session by another name has names too
pub some_names : {s t : Session} → s ≡ t → 0 < length s.names → 0 < length t.names
some_names {s} {t} same some = subst (λ (x : Session). 0 < length x.names) same some

module _ {o : Option Session} {c d : Command} (is : c ≡ d) where
  pub decides_standing : {s new : Session} {before after : ShelfState} {r : Result Response AllocError} → o ≡ Some s
      → Decides (λ calls. command_effect s calls d) s new before after r → Decides (λ calls. command_effect (standing_session o) calls c) (standing_session o) new before after r
  decides_standing {s} {new} {before} {after} {r} stands h =
      subst (λ (p : Option Session). Decides (λ calls. command_effect (standing_session p) calls c) (standing_session p) new before after r) (sym stands)
      (subst (λ (x : Command). Decides (λ calls. command_effect s calls x) s new before after r) (sym is) h)

  pub decides_refused : {shelf : ShelfState} {r : Response} → o ≡ None → ((calls : Calls) → command_effect (started []) calls d ≡ answers (started []) (Refused (Unnamed 0))) → r ≡ Refused (Unnamed 0)
      → Decides (λ calls. command_effect (standing_session o) calls c) (standing_session o) (standing_session o) shelf shelf (Ok r)
  decides_refused {shelf} {r} none refused response =
      subst (λ (p : Option Session). Decides (λ calls. command_effect (standing_session p) calls c) (standing_session p) (standing_session p) shelf shelf (Ok r)) (sym none)
      (decides_made (λ calls. ap (command_effect (started []) calls) is ∙ refused calls) refl (makes_response (Ok r) response))

-- ---- a line

-- what was decided of a line is the response to it, and the session after it
pub after_line : {s new : Session} (line : List ℕ) {before after : ShelfState} {decided : Result Response AllocError} {response : Response} → decided ≡ Ok response → Decides (λ calls. line_effect s calls line) s new before after decided → IsAfterLine new response
after_line {s} {new} line {before} {after} {decided} {response} is h =
    let d = subst (Decides (λ calls. line_effect s calls line) s new before after) is h in
    record { old = s; calls = d.calls; line = line; session = d.decided.session; responded = d.response }
