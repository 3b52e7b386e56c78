-- A line whose answer was followed, over told files, is answered or begun.
use Rattle.ls_shell.proofs.Vocabulary.{◌||◌, ◌∙◌, ◌≡◌, ◌⊎◌, AnswersLine, Appends, Appends-kept, Appends-nil, AppendsFront, Bool, Calls, Effect, Ended, Err, Fetched, Folder, Follows, Gives, IsErr, IsErrOf, IsUndone, Keeps, List, Marked, MovesSink, Ok, OnErr, OnOk, Result, Run, Said, Session, Some, Text, World, ℕ, [], ap, calls_of, cond, effect_at, ended_of, false, folder_with, inl, inr, is_long, kept, length, line_effect, refl, reply_of, subst, sym, true}
use Rattle.std.proofs.Math.Path.{fun_ext}
use Rattle.std.specs.declared.option.Option.{Option}
use Rattle.ls_cutting.specs.declared.ended.Ended.TheVariants.{Whole, Long}
use Rattle.ls_state.specs.Decides.{IsDecided, Sees, ShelfState}

-- where the files are told, what was seen is the folder, with the line's mark
pub seen_whole : (calls : Calls) (before after : ShelfState) (m : Folder) → Sees calls before after → before.files ≡ Some m → calls ≡ calls_of m calls.failed
seen_whole calls before after m h told = ap (λ (file : Text → Fetched). record { file = file; failed = calls.failed }) (fun_ext (h.told m told))

pub OnErr_from : {T E : Type 0} (r : Result T E) {P : Type 0} → P → OnErr r P
OnErr_from (Ok x) h = tt
OnErr_from (Err e) h = h

OnOk_never : {T E : Type 0} (r : Result T E) (P : Type 0) → IsErr r → OnOk r P
OnOk_never (Ok x) P h = absurd (cc h)
OnOk_never (Err e) P h = tt

-- whatever a line gives, bytes were appended, or none
gives_bytes : {E : Type 0} (write : E) (effect : Effect) (old new : Session) (folder left : Option Folder) (a b : Option (List ℕ)) (r : Result Bool E) → Gives write effect old new folder left a b r → (bytes : List ℕ) × Appends a b bytes
gives_bytes write effect old new folder left a b (Ok refused) h = (_, h.1.written)
gives_bytes write effect old new folder left a b (Err e) (inl h) = (_, Appends-kept a a b [] (Appends-nil a) h.0.written)
gives_bytes write effect old new folder left a b (Err e) (inr h) = (_, h.1.2)

-- a line that was followed moves the sink
pub follows_moves : {E : Type 0} {write : E} {effect : Calls → Effect} {old new : Session} {shelf left : ShelfState} {a b : Option (List ℕ)} {k l : ℕ} {r : Result Bool E} → Follows write effect old new shelf left a b k l r → MovesSink write a b k l r
follows_moves {E} {write} {effect} {old} {new} {shelf} {left} {a} {b} {k} {l} {r} h =
    record { kept = gives_bytes write (effect h.calls) old new shelf.files left.files a b r h.gives; later = h.later; cause = h.cause }

module _ {E : Type 0} (write : E) (line : List ℕ) (old new : Run) (next : Session) (shelf left : ShelfState) (a b : Option (List ℕ)) (faults_before faults_now : ℕ) (q : Result Bool E) (m : Folder) where
  abbrev FollowsIt : Type 0
  FollowsIt = Follows write (λ calls. line_effect old.session calls line) old.session next shelf left a b faults_before faults_now q

  abbrev world : World
  world = record { session = old.session; folder = m }

  abbrev at : Bool → Marked
  at failed = record { line = line; failed = failed }

  same_answer : (h : FollowsIt) → shelf.files ≡ Some m → line_effect old.session h.calls line ≡ effect_at world (at h.calls.failed)
  same_answer h told = ap (λ (calls : Calls). line_effect old.session calls line) (seen_whole h.calls shelf left m h.sees told)

  -- the reply was said
  pub line_answered : (refused : Bool) → q ≡ Ok refused → new.session ≡ next → new.cutter ≡ old.cutter → new.is_refused ≡ (old.is_refused || refused) → shelf.files ≡ Some m → FollowsIt
      → AnswersLine {T = Unit {0}} {E = E} write m line old new left.files shelf.faults left.faults a b (Ok tt)
  line_answered refused was same cutter told files h =
      let e = same_answer h files in
      let given : Gives write (line_effect old.session h.calls line) old.session next shelf.files left.files a b (Ok refused) = subst (λ (r : Result Bool E). Gives write (line_effect old.session h.calls line) old.session next shelf.files left.files a b r) was h.gives in
      let whole : Said a b (reply_of (effect_at world (at h.calls.failed))) refused = subst (λ (x : Effect). Said a b (reply_of x) refused) e given.1 in
      record {
        failed = h.calls.failed;
        cause = λ e. (h.sees.cause e).0;
        later = h.shelf_later;
        answered = record {
          session = same ∙ given.0.session ∙ ap (λ (x : Effect). x.session) e;
          cutter = cutter;
          told = told ∙ ap (λ r. old.is_refused || r) whole.told;
          files = given.0.files m files ∙ ap (λ (x : Effect). Some (folder_with m x.stored)) e;
          written = whole.written;
        };
        begun = tt;
      }

  begun_by : (x y : Effect) (f : E) (W : Type 0) → (W → f ≡ write) → x ≡ y → shelf.files ≡ Some m → (IsUndone old.session next shelf.files left.files a b × (f ≡ write → ⊥)) ⊎ (IsDecided x next shelf.files left.files × AppendsFront a b (reply_of x))
      → ((left.files ≡ Some m) × Keeps a b × (W → ⊥)) ⊎ ((left.files ≡ Some (folder_with m y.stored)) × AppendsFront a b (reply_of y))
  begun_by x y f W same e files (inl h) = inl (h.0.files m files, h.0.written, λ w. h.1 (same w))
  begun_by x y f W same e files (inr h) = inr (h.0.files m files ∙ ap (λ (z : Effect). Some (folder_with m z.stored)) e, subst (λ (z : Effect). AppendsFront a b (reply_of z)) e h.1)

  -- a front of it was said
  pub line_begun : {T : Type 0} (r : Result T E) (e : E) → q ≡ Err e → IsErr r → (IsErrOf r write → IsErrOf q write) → shelf.files ≡ Some m → FollowsIt → AnswersLine write m line old new left.files shelf.faults left.faults a b r
  line_begun r f was err passed files h =
      let given = subst (λ (x : Result Bool E). Gives write (line_effect old.session h.calls line) old.session next shelf.files left.files a b x) was h.gives in
      record {
        failed = h.calls.failed;
        cause = λ e. (h.sees.cause e).0;
        later = h.shelf_later;
        answered = OnOk_never r _ err;
        begun = OnErr_from r (begun_by (line_effect old.session h.calls line) (effect_at world (at h.calls.failed)) f (IsErrOf r write) (λ w. let wrote : q ≡ Err write = passed w in let same : f ≡ write = cc in same) (same_answer h files) files given);
      }

-- a line that ended whole is kept whole
whole_by : (long : Bool) (line bytes : List ℕ) → Whole ≡ cond long (Long (length line)) Whole → bytes ≡ cond long [] line → bytes ≡ line
whole_by true line bytes ended kept = absurd (cc ended)
whole_by false line bytes ended kept = kept

pub whole_line : (ended : Ended) (line bytes : List ℕ) → ended ≡ Whole → ended ≡ ended_of line → bytes ≡ kept line → bytes ≡ line
whole_line ended line bytes e told held = whole_by (is_long line) line bytes (sym e ∙ told) held

-- one that ended too long is too long
long_by : (long : Bool) (length bytes : ℕ) → Long bytes ≡ cond long (Long length) Whole → (length ≡ bytes) × (long ≡ true)
long_by true length bytes ended = (let same : length ≡ bytes = cc ended in same, refl)
long_by false length bytes ended = absurd (cc ended)

pub long_line : (ended : Ended) (line : List ℕ) (bytes : ℕ) → ended ≡ Long bytes → ended ≡ ended_of line → (length line ≡ bytes) × (is_long line ≡ true)
long_line ended line bytes e told = long_by (is_long line) (length line) bytes (sym e ∙ told)
