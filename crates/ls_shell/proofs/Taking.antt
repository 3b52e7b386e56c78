-- How a run over the script of a source ended, by what it came to.
use Rattle.ls_shell.proofs.Vocabulary.{◌∙◌, ◌≡◌, Bool, Err, Folder, IsErrOf, IsExtended, List, Ok, Result, Rose, RunFault, StepFault, TakesAndAnswers, TakesAndStops, TakesScript, TakesWhole, ℕ, ap, refl, sym}
use Rattle.std.specs.Prelude.{IsErrAnd}
use Rattle.std.specs.declared.option.Option.{Option}
use Rattle.ls_session.specs.declared.step_fault.StepFault.TheVariants as fault
use Rattle.ls_shell.specs.declared.run_fault.RunFault.TheVariants as run
use Rattle.ls_shell.specs.Faults.{run_fault}
use Rattle.ls_shell.proofs.Answered.{takes_if}

told : (r : Result Bool RunFault) (f : StepFault) (k : RunFault) → IsErrAnd r (λ x. x ≡ run_fault f) → IsErrOf r k → run_fault f ≡ k
told (Ok x) f k h e = absurd h
told (Err x) f k h e = let same : x ≡ k = cc e in sym h ∙ same

write_only : (f : StepFault) → run_fault f ≡ run.Write → f ≡ fault.Write
write_only fault.Write e = refl
write_only (fault.Memory x) e = absurd (cc e)

read_never : (f : StepFault) → run_fault f ≡ run.Read → ⊥
read_never fault.Write e = cc e
read_never (fault.Memory x) e = cc e

long_never : (f : StepFault) → run_fault f ≡ run.Long → ⊥
long_never fault.Write e = cc e
long_never (fault.Memory x) e = cc e

passed : (f : StepFault) (k : RunFault) → IsErrOf {T = Bool} (Err k) (run_fault f) → run_fault f ≡ k
passed f k e = let same : k ≡ run_fault f = cc e in sym same

module _ {source source_left : Option (List ℕ)} {source_before source_now : ℕ} {folder left : Option Folder} {shelf_before shelf_now : ℕ} {before after : Option (List ℕ)} {sink_before sink_now : ℕ} where
  -- the script was answered whole
  pub takes_done : (refused : Bool) → TakesWhole source source_left folder left shelf_before shelf_now before after refused → IsExtended before after → TakesScript source source_left source_before source_now folder left shelf_before shelf_now before after sink_before sink_now (Ok refused)
  takes_done refused t kept = record { done = t; read = λ e. absurd (cc e); long = λ e. absurd (cc e); write = λ e. absurd (cc e); stopped = λ f e. absurd (cc e); kept = kept }

  -- a read failed
  pub takes_read : Rose source_before source_now → TakesAndAnswers 0 source source_left folder left shelf_before shelf_now before after → IsExtended before after → TakesScript source source_left source_before source_now folder left shelf_before shelf_now before after sink_before sink_now (Err run.Read)
  takes_read rose t kept = record {
    done = tt;
    read = λ e. (rose, t);
    long = λ e. absurd (cc e);
    write = λ e. absurd (cc e);
    stopped = λ f e. absurd (read_never f (passed f run.Read e));
    kept = kept;
  }

  -- the script is too long
  pub takes_long : TakesAndAnswers 1 source source_left folder left shelf_before shelf_now before after → IsExtended before after → TakesScript source source_left source_before source_now folder left shelf_before shelf_now before after sink_before sink_now (Err run.Long)
  takes_long t kept = record {
    done = tt;
    read = λ e. absurd (cc e);
    long = λ e. t;
    write = λ e. absurd (cc e);
    stopped = λ f e. absurd (long_never f (passed f run.Long e));
    kept = kept;
  }

  -- a step ended the run
  pub takes_stopped : {W : Type 0} (r : Result Bool RunFault) (f : StepFault) → IsErrAnd r (λ x. x ≡ run_fault f) → (f ≡ fault.Write → W) → (f ≡ fault.Write → Rose sink_before sink_now)
      → TakesAndStops W source source_left folder left shelf_before shelf_now before after → IsExtended before after → TakesScript source source_left source_before source_now folder left shelf_before shelf_now before after sink_before sink_now r
  takes_stopped {W} (Ok x) f is failed rose t kept = absurd is
  takes_stopped {W} (Err x) f is failed rose t kept = record {
    done = tt;
    read = λ e. absurd (read_never f (told (Err x) f run.Read is e));
    long = λ e. absurd (long_never f (told (Err x) f run.Long is e));
    write = λ e. rose (write_only f (told (Err x) f run.Write is e));
    stopped = λ g e. takes_if W (g ≡ fault.Write) source source_left folder left shelf_before shelf_now before after (λ w. failed (write_only f (told (Err x) f run.Write is (e ∙ ap (λ k. Err (run_fault k)) w)))) t;
    kept = kept;
  }
