-- The line that ended in a piece, and the last line.
use Rattle.ls_shell.proofs.Vocabulary.{◌++◌, ◌-◌, ◌<◌, ◌^◌, ◌∙◌, ◌∷◌, ◌≡◌, Answers, AnswersLine, AnswersWhole, Ended, Ends, Err, Folder, Holds, IsErrOf, IsTaken, List, Ok, Result, Run, Some, StopsAt, ℕ, [], ap, arith, bare_lines, begun_over, drop, ended_of, false, kept, length, lines, subst, sym, take, world_after}
use Rattle.std.specs.declared.option.Option.{Option}
use Rattle.ls_shell.proofs.Joined.{few_pending}
use Rattle.ls_shell.proofs.Answered.{Continues, line_more, line_stops, answers_taken, cut_past, lines_last, answers_last, empty_more}

module _ (m : Folder) (bytes rest : List ℕ) (ended : Ended) (old mid new : Run) (then left : Option Folder) (shelf_before shelf_then shelf_now : ℕ) (start before after : Option (List ℕ)) (s : mid.session ≡ old.session) (r : mid.is_refused ≡ old.is_refused)
    (a : Answers m (lines bytes) rest old then shelf_before shelf_then start before) where
  -- so was the line that ended, whatever it is
  abbrev pub AnswersIt : (E : Type 0) → E → Result (Unit {0}) E → Type 0
  AnswersIt E write q = (line : List ℕ) → ended ≡ ended_of line → mid.cutter.line ≡ kept line → (k : Folder) → then ≡ Some k → AnswersLine write k line mid new left shelf_then shelf_now before after q

  so_far : Continues m a.ended mid then shelf_before shelf_then start before
  so_far = record { session = s ∙ a.session; told = r ∙ a.told; answered = a.answered }

  abbrev here : Folder
  here = (world_after (begun_over m) a.ended).folder

  module _ (n : ℕ) (t : IsTaken mid.cutter a.pending rest n (Some ended)) where
    abbrev line : List ℕ
    line = a.pending ++ take (n - 1) rest

    -- the line was answered
    pub taken_more : (E : Type 0) (write : E) → AnswersIt E write (Ok tt) → Answers m (lines bytes) (drop n rest) new left shelf_before shelf_now start after
    taken_more E write h =
        let l = h line t.3.told t.3.bytes here a.answered.files in
        answers_taken m (lines bytes) rest n a.ended a.pending l.failed new left shelf_before shelf_now start after a.all_lines t.2 (subst (λ c. Holds c []) (sym l.answered.cutter) t.3.begun)
        (line_more m a.ended line l.failed mid new then left shelf_before shelf_then shelf_now start before after so_far l.later l.cause l.answered)

    -- the run stopped at it, and more bytes may come
    pub taken_stops : (E : Type 0) (write : E) (more : List ℕ) (e : E) → AnswersIt E write (Err e) → StopsAt (IsErrOf {T = Unit {0}} (Err e) write) m (lines (bytes ++ more)) left shelf_before shelf_now start after
    taken_stops E write more e h =
        let l = h line t.3.told t.3.bytes here a.answered.files in
        line_stops m a.ended line l.failed mid new then left shelf_before shelf_then shelf_now start before after so_far l.later l.cause _ (lines (bytes ++ more)) (lines (drop n rest ++ more))
        (cut_past m bytes more a.ended a.pending rest n a.all_lines t.2) l.begun

module _ (m : Folder) (script : List ℕ) (old : Run) (then : Option Folder) (shelf_before shelf_then : ℕ) (start before : Option (List ℕ))
    (a : Answers m (lines script) [] old then shelf_before shelf_then start before) where
  pub short : length script < 2 ^ 64 → length a.pending < 2 ^ 64
  short few = omega (arith, few_pending (bare_lines a.ended) a.pending [] script a.all_lines)

  -- no byte is pending
  pub finish_none : a.pending ≡ [] → AnswersWhole m script then shelf_before shelf_then start before old.is_refused
  finish_none none =
      answers_last m script a.ended [] false old then shelf_before shelf_then start before (lines_last m (bare_lines a.ended) a.pending script a.all_lines ∙ ap (λ p. bare_lines a.ended ++ p ∷ []) none)
      (empty_more m a.ended old then shelf_before shelf_then start before (record { session = a.session; told = a.told; answered = a.answered }))

  module _ (ended : Ended) (mid new : Run) (left : Option Folder) (shelf_now : ℕ) (after : Option (List ℕ)) (s : mid.session ≡ old.session) (r : mid.is_refused ≡ old.is_refused) (t : Ends mid.cutter a.pending ended) where
    abbrev AnswersLast : (E : Type 0) → E → Result (Unit {0}) E → Type 0
    AnswersLast = AnswersIt m script [] ended old mid new then left shelf_before shelf_then shelf_now start before after s r a

    so : Continues m a.ended mid then shelf_before shelf_then start before
    so = record { session = s ∙ a.session; told = r ∙ a.told; answered = a.answered }

    all : lines script ≡ bare_lines a.ended ++ a.pending ∷ []
    all = lines_last m (bare_lines a.ended) a.pending script a.all_lines

    pub finish_more : (E : Type 0) (write : E) → AnswersLast E write (Ok tt) → AnswersWhole m script left shelf_before shelf_now start after new.is_refused
    finish_more E write h =
        let l = h a.pending t.told t.bytes (world_after (begun_over m) a.ended).folder a.answered.files in
        answers_last m script a.ended a.pending l.failed new left shelf_before shelf_now start after all
        (line_more m a.ended a.pending l.failed mid new then left shelf_before shelf_then shelf_now start before after so l.later l.cause l.answered)

    pub finish_stops : (E : Type 0) (write e : E) → AnswersLast E write (Err e) → StopsAt (IsErrOf {T = Unit {0}} (Err e) write) m (lines script) left shelf_before shelf_now start after
    finish_stops E write e h =
        let l = h a.pending t.told t.bytes (world_after (begun_over m) a.ended).folder a.answered.files in
        line_stops m a.ended a.pending l.failed mid new then left shelf_before shelf_then shelf_now start before after so l.later l.cause _ (lines script) [] (sym all) l.begun
