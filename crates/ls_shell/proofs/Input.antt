-- What a run over the input did, by its status.
use Rattle.ls_shell.proofs.Vocabulary.{◌++◌, ◌<◌, ◌≡◌, AllocError, AnswersScript, AnswersWhole, Bool, Consumes, Err, Folder, List, MarksScript, Ok, Result, Rose, RunFault, Some, TakesAndAnswers, TakesAndStops, TakesFew, TakesScript, ℕ, [], arith, false, input_status, length, length-append, longest_script, refl, subst, true}
use Rattle.std.specs.declared.option.Option.{Option}
use Rattle.ls_session.specs.declared.step_fault.StepFault.TheVariants as fault
use Rattle.ls_shell.specs.declared.run_fault.RunFault.TheVariants.{Long, Read, Write, Memory}
use Rattle.ls_shell.specs.declared.status.Status.TheVariants as status
use Rattle.ls_shell.proofs.Answered.{takes_if}
use Rattle.ls_shell.proofs.Scripts.{took_few, taken_more, whole_script, stops_script, whole_unmarked}

module _ {source source_left : Option (List ℕ)} {source_before source_now : ℕ} {folder left : Option Folder} {shelf_before shelf_now : ℕ} {before after : Option (List ℕ)} {sink_before sink_now : ℕ} where
  whole : (script : List ℕ) (refused : Bool) → TakesScript source source_left source_before source_now folder left shelf_before shelf_now before after sink_before sink_now (Ok refused) → source ≡ Some script → (source_left ≡ Some []) × ((m : Folder) → folder ≡ Some m → AnswersWhole m script left shelf_before shelf_now before after refused)
  whole script refused h told = whole_script source source_left folder left shelf_before shelf_now before after script refused h.done told

  stopped : (W : Type 0) → (W → ⊥) → (e : AllocError) → TakesScript source source_left source_before source_now folder left shelf_before shelf_now before after sink_before sink_now (Err (Memory e)) → TakesAndStops W source source_left folder left shelf_before shelf_now before after
  stopped W never e h = takes_if _ W _ _ _ _ _ _ _ _ (λ w. absurd (never w)) (h.stopped (fault.Memory e) refl)

  -- ---- status 0 and 1

  pub input_done : (r : Result Bool RunFault) → TakesScript source source_left source_before source_now folder left shelf_before shelf_now before after sink_before sink_now r → input_status r ≡ status.Done → (script : List ℕ) → source ≡ Some script → (source_left ≡ Some []) × ((m : Folder) → folder ≡ Some m → AnswersWhole m script left shelf_before shelf_now before after false)
  input_done (Ok false) h e script told = whole script false h told
  input_done (Ok true) h e script told = absurd (cc e)
  input_done (Err Long) h e script told = absurd (cc e)
  input_done (Err Read) h e script told = absurd (cc e)
  input_done (Err Write) h e script told = absurd (cc e)
  input_done (Err (Memory x)) h e script told = absurd (cc e)

  pub input_refused : (r : Result Bool RunFault) → TakesScript source source_left source_before source_now folder left shelf_before shelf_now before after sink_before sink_now r → input_status r ≡ status.Refused → (script : List ℕ) → source ≡ Some script → (source_left ≡ Some []) × ((m : Folder) → folder ≡ Some m → AnswersWhole m script left shelf_before shelf_now before after true)
  input_refused (Ok false) h e script told = absurd (cc e)
  input_refused (Ok true) h e script told = whole script true h told
  input_refused (Err Long) h e script told = absurd (cc e)
  input_refused (Err Read) h e script told = absurd (cc e)
  input_refused (Err Write) h e script told = absurd (cc e)
  input_refused (Err (Memory x)) h e script told = absurd (cc e)

  -- ---- the whole script

  many_taken : (script : List ℕ) → TakesScript source source_left source_before source_now folder left shelf_before shelf_now before after sink_before sink_now (Err Long) → source ≡ Some script → TakesFew script source_left → ⊥
  many_taken script h told few =
      let t = h.long refl in
      taken_more script source_left (t.counted ++ t.past) (subst (λ s. Consumes s source_left (t.counted ++ t.past)) told t.taken) (omega (arith, length-append t.counted t.past, t.past_is, t.full (omega arith))) few

  module _ (script : List ℕ) (m : Folder) (told : source ≡ Some script) (files : folder ≡ Some m) (few : TakesFew script source_left) (read : Rose source_before source_now → ⊥) (written : Rose sink_before sink_now → ⊥) where
    pub input_marked : (r : Result Bool RunFault) → TakesScript source source_left source_before source_now folder left shelf_before shelf_now before after sink_before sink_now r → MarksScript m script left shelf_before shelf_now before after (input_status r)
    input_marked (Ok false) h = (whole script false h told).1 m files
    input_marked (Ok true) h = (whole script true h told).1 m files
    input_marked (Err Long) h = absurd (many_taken script h told few)
    input_marked (Err Read) h = absurd (read (h.read refl).0)
    input_marked (Err Write) h = absurd (written (h.write refl))
    input_marked (Err (Memory x)) h = stops_script source source_left folder left shelf_before shelf_now before after ⊥ script m (stopped ⊥ (λ e. e) x h) told files

    pub input_answered : (r : Result Bool RunFault) → TakesScript source source_left source_before source_now folder left shelf_before shelf_now before after sink_before sink_now r → (Rose shelf_before shelf_now → ⊥) → AnswersScript m script left before after (input_status r)
    input_answered (Ok false) h quiet = whole_unmarked m script left shelf_before shelf_now before after false ((whole script false h told).1 m files) quiet
    input_answered (Ok true) h quiet = whole_unmarked m script left shelf_before shelf_now before after true ((whole script true h told).1 m files) quiet
    input_answered (Err Long) h quiet = absurd (many_taken script h told few)
    input_answered (Err Read) h quiet = absurd (read (h.read refl).0)
    input_answered (Err Write) h quiet = absurd (written (h.write refl))
    input_answered (Err (Memory x)) h quiet = tt

  -- ---- faults

  pub input_read : (r : Result Bool RunFault) → TakesScript source source_left source_before source_now folder left shelf_before shelf_now before after sink_before sink_now r → input_status r ≡ status.ReadFault → Rose source_before source_now × TakesAndAnswers 0 source source_left folder left shelf_before shelf_now before after
  input_read (Ok false) h e = absurd (cc e)
  input_read (Ok true) h e = absurd (cc e)
  input_read (Err Long) h e = absurd (cc e)
  input_read (Err Read) h e = h.read refl
  input_read (Err Write) h e = absurd (cc e)
  input_read (Err (Memory x)) h e = absurd (cc e)

  pub input_long : (r : Result Bool RunFault) → TakesScript source source_left source_before source_now folder left shelf_before shelf_now before after sink_before sink_now r → input_status r ≡ status.InputLong → TakesAndAnswers 1 source source_left folder left shelf_before shelf_now before after
  input_long (Ok false) h e = absurd (cc e)
  input_long (Ok true) h e = absurd (cc e)
  input_long (Err Long) h e = h.long refl
  input_long (Err Read) h e = absurd (cc e)
  input_long (Err Write) h e = absurd (cc e)
  input_long (Err (Memory x)) h e = absurd (cc e)

  pub input_write : (r : Result Bool RunFault) → TakesScript source source_left source_before source_now folder left shelf_before shelf_now before after sink_before sink_now r → input_status r ≡ status.WriteFault → Rose sink_before sink_now × ((W : Type 0) → TakesAndStops W source source_left folder left shelf_before shelf_now before after)
  input_write (Ok false) h e = absurd (cc e)
  input_write (Ok true) h e = absurd (cc e)
  input_write (Err Long) h e = absurd (cc e)
  input_write (Err Read) h e = absurd (cc e)
  input_write (Err Write) h e = (h.write refl, λ W. takes_if _ W _ _ _ _ _ _ _ _ (λ w. refl) (h.stopped fault.Write refl))
  input_write (Err (Memory x)) h e = absurd (cc e)

  pub input_memory : (r : Result Bool RunFault) → TakesScript source source_left source_before source_now folder left shelf_before shelf_now before after sink_before sink_now r → input_status r ≡ status.NoMemory → TakesAndStops (input_status r ≡ status.WriteFault) source source_left folder left shelf_before shelf_now before after
  input_memory (Ok false) h e = absurd (cc e)
  input_memory (Ok true) h e = absurd (cc e)
  input_memory (Err Long) h e = absurd (cc e)
  input_memory (Err Read) h e = absurd (cc e)
  input_memory (Err Write) h e = absurd (cc e)
  input_memory (Err (Memory x)) h e = stopped _ (λ w. cc w) x h

  -- more was taken than a script has
  pub input_many : (r : Result Bool RunFault) → TakesScript source source_left source_before source_now folder left shelf_before shelf_now before after sink_before sink_now r → (taken rest : List ℕ) → source ≡ Some (taken ++ rest) → source_left ≡ Some rest → longest_script < length taken → input_status r ≡ status.InputLong
  input_many (Ok refused) h taken rest first then many = let t = h.done in absurd (took_few source source_left t.script taken rest longest_script t.taken t.few first then many)
  input_many (Err Long) h taken rest first then many = refl
  input_many (Err Read) h taken rest first then many =
      let t = (h.read refl).1 in
      absurd (took_few source source_left (t.counted ++ t.past) taken rest longest_script t.taken (omega (arith, length-append t.counted t.past, t.past_is, t.few)) first then many)
  input_many (Err Write) h taken rest first then many = let t = h.stopped fault.Write refl in absurd (took_few source source_left t.counted taken rest longest_script t.taken t.few first then many)
  input_many (Err (Memory x)) h taken rest first then many = let t = h.stopped (fault.Memory x) refl in absurd (took_few source source_left t.counted taken rest longest_script t.taken t.few first then many)

-- ---- what a run over the input never tells

pub never_usage : (r : Result Bool RunFault) → input_status r ≡ status.Usage → ⊥
never_usage (Ok false) e = cc e
never_usage (Ok true) e = cc e
never_usage (Err Long) e = cc e
never_usage (Err Read) e = cc e
never_usage (Err Write) e = cc e
never_usage (Err (Memory x)) e = cc e

pub never_missing : (r : Result Bool RunFault) → input_status r ≡ status.NoScript → ⊥
never_missing (Ok false) e = cc e
never_missing (Ok true) e = cc e
never_missing (Err Long) e = cc e
never_missing (Err Read) e = cc e
never_missing (Err Write) e = cc e
never_missing (Err (Memory x)) e = cc e
