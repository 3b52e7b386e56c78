-- A line that was decided, and then written.
use Rattle.ls_session.proofs.Vocabulary.{[], ◌∙◌, ◌≡◌, AllocError, Bool, Calls, Decides, Effect, Err, IsErrAnd, IsErrOf, List, Ok, Option, Response, Result, Session, ShelfState, Silence, ℕ, answers, ap, ap₂, arith, bytes_of, false, inl, inr, is_refusal, is_refused, line_effect, lines_of, refl, reply_of, subst, sym}
use Rattle.ls_state.proofs.Decided.{decides_made, files_stay}
use Rattle.std.specs.Io.KnownBytes.{Appends}
use Rattle.std.proofs.KnownBytes.{Keeps-refl, Appends-nil}
use Rattle.ls_edge.specs.Causes.{AppendsFront}
use Rattle.ls_edge.specs.declared.traits.SinkFault.{SinkFault}
use Rattle.ls_edge.specs.declared.traits.SinkFault.TheVariants as sink
use Rattle.ls_meaning.proofs.Refusing.{is_refusal-lines_of}
use Rattle.ls_room.specs.Rooms.{Wrote}
use Rattle.ls_session.specs.Faults.{step_fault}
use Rattle.ls_session.specs.Follows.{Follows, MovesSink}
use Rattle.ls_session.specs.declared.step_fault.StepFault.{StepFault}
use Rattle.ls_session.specs.declared.step_fault.StepFault.TheVariants.{Write, Memory}

-- a step tells that the sink failed where it did
sink_failed : (e : SinkFault) → step_fault e ≡ Write → e ≡ sink.Failed
sink_failed sink.Failed h = refl
sink_failed (sink.Memory x) h = absurd (cc h)

pub told_failed : {T : Type 0} {written : Result (Unit {0}) SinkFault} {e : SinkFault} (result : Result T StepFault) → written ≡ Err e → IsErrAnd result (λ f. f ≡ step_fault e) → IsErrOf result Write → IsErrOf written sink.Failed
told_failed {T} {written} {e} (Ok x) err is h = absurd is
told_failed {T} {written} {e} (Err f) err is h = err ∙ ap Err (sink_failed e (sym is ∙ (let same : f ≡ Write = cc h in same)))

module _ {effect : Calls → Effect} {old new : Session} {before after : ShelfState} where
  -- deciding failed
  pub follows_undone : {a : Option (List ℕ)} {k : ℕ} {decided : Result Response AllocError} {e : AllocError} (result : Result Bool StepFault) → decided ≡ Err e → IsErrAnd result (λ f. f ≡ Memory e) → Decides effect old new before after decided
      → Follows Write effect old new before after a a k k result
  follows_undone {a} {k} {decided} {e} (Ok x) was is h = absurd is
  follows_undone {a} {k} {decided} {e} (Err f) was is h =
      let d = subst (Decides effect old new before after) was h in
      record {
        calls = d.calls;
        sees = d.sees;
        gives = inl (record { session = d.undone.0; files = files_stay before.files after.files d.undone.1; written = Keeps-refl a }, λ w. absurd (cc (is, w)));
        few = d.few;
        shelf_later = d.later;
        cause = λ w. absurd (cc (is, w));
        later = omega arith;
      }

  reply_is : {response : Response} (d : Decides effect old new before after (Ok response)) → bytes_of (lines_of new response) ≡ reply_of (effect d.calls)
  reply_is d = ap₂ (λ (s : Session) (r : Response). bytes_of (lines_of s r)) d.decided.session d.response

module _ {effect : Calls → Effect} {old new : Session} {before after : ShelfState} {a b : Option (List ℕ)} {k l : ℕ} where
  -- the reply was written whole
  pub follows_whole : {decided : Result Response AllocError} {written : Result (Unit {0}) SinkFault} {response : Response} {u : Unit {0}} {refused : Bool} → decided ≡ Ok response → Decides effect old new before after decided → written ≡ Ok u
      → Wrote a k b l (bytes_of (lines_of new response)) written → refused ≡ is_refused response → Follows Write effect old new before after a b k l (Ok refused)
  follows_whole {decided} {written} {response} {u} {refused} was h all w told =
      let d = subst (Decides effect old new before after) was h in
      let whole = subst (Wrote a k b l (bytes_of (lines_of new response))) all w in
      record {
        calls = d.calls;
        sees = d.sees;
        gives = (
          d.decided,
          record { written = subst (Appends a b) (reply_is d) whole.whole; told = told ∙ sym (is_refusal-lines_of new response) ∙ ap is_refusal (reply_is d) },
        );
        few = d.few;
        shelf_later = d.later;
        cause = λ e. absurd (cc e);
        later = w.cause.later;
      }

  -- a front of the reply was written
  pub follows_front : {decided : Result Response AllocError} {written : Result (Unit {0}) SinkFault} {response : Response} {e : SinkFault} (result : Result Bool StepFault) → decided ≡ Ok response → Decides effect old new before after decided → written ≡ Err e
      → Wrote a k b l (bytes_of (lines_of new response)) written → IsErrAnd result (λ f. f ≡ step_fault e) → Follows Write effect old new before after a b k l result
  follows_front {decided} {written} {response} {e} (Ok x) was h err w is = absurd is
  follows_front {decided} {written} {response} {e} (Err f) was h err w is =
      let d = subst (Decides effect old new before after) was h in
      record {
        calls = d.calls;
        sees = d.sees;
        gives = inr (d.decided, subst (AppendsFront a b) (reply_is d) w.front);
        few = d.few;
        shelf_later = d.later;
        cause = λ q. w.cause.failed (told_failed {T = Bool} (Err f) err is q);
        later = w.cause.later;
      }

no_lines : [] ≡ bytes_of []
unfolding bytes_of
no_lines = refl

-- nothing was done, and nothing said
pub follows_silent : {effect : Calls → Effect} {s : Session} {shelf : ShelfState} {a : Option (List ℕ)} {k : ℕ} → ((calls : Calls) → effect calls ≡ answers s Silence) → Follows Write effect s s shelf shelf a a k k (Ok false)
follows_silent {effect} {s} {shelf} {a} {k} same =
    let d : Decides effect s s shelf shelf (Ok Silence) = decides_made same refl (record { response = refl; session = refl; undone = tt }) in
    let is = no_lines ∙ reply_is d in
    record {
      calls = d.calls;
      sees = d.sees;
      gives = (d.decided, record { written = subst (Appends a a) is (Appends-nil a); told = ap is_refusal is });
      few = d.few;
      shelf_later = d.later;
      cause = λ e. absurd (cc e);
      later = omega arith;
    }

-- the sessions by other names
pub follows_of : (line : List ℕ) {s t n m : Session} {shelf left : ShelfState} {a b : Option (List ℕ)} {k l : ℕ} {r : Result Bool StepFault} → s ≡ t → m ≡ n
    → Follows Write (λ calls. line_effect s calls line) s n shelf left a b k l r → Follows Write (λ calls. line_effect t calls line) t m shelf left a b k l r
follows_of line {s} {t} {n} {m} {shelf} {left} {a} {b} {k} {l} {r} old new h =
    subst (λ (x : Session). Follows Write (λ calls. line_effect x calls line) x m shelf left a b k l r) old
    (subst (λ (x : Session). Follows Write (λ calls. line_effect s calls line) s x shelf left a b k l r) (sym new) h)

-- whatever was written, the sink was moved
pub moves_wrote : {T : Type 0} {a b : Option (List ℕ)} {k l : ℕ} {bytes : List ℕ} {written : Result (Unit {0}) SinkFault} {result : Result T StepFault} → (IsErrOf result Write → IsErrOf written sink.Failed) → Wrote a k b l bytes written → MovesSink Write a b k l result
moves_wrote same w = record { kept = (_, w.front.2); later = w.cause.later; cause = λ e. w.cause.failed (same e) }
