-- A script that is read piece by piece.
use Rattle.ls_shell.proofs.Vocabulary.{◌++◌, ◌+◌, ◌<◌, ◌^◌, ◌≡◌, ◌≤◌, Answers, AnswersWhole, Bool, Consumes, Consumes-kept, Consumes-nil, Consumes-trans, Folder, IfSome, IsAtEnd, IsFresh, Keeps, List, None, Run, Some, StopsAt, TakesAndAnswers, TakesAndStops, TakesWhole, ℕ, [], append-nil, appends_none, arith, false, inl, length, length-append, lines, longest_script, marked, refl, replies, subst, sym, world_after}
use Rattle.std.specs.declared.option.Option.{Option}
use Rattle.ls_shell.proofs.Past.{lines-first}
use Rattle.ls_shell.proofs.Rises.{few-one}
use Rattle.ls_shell.proofs.Answered.{answers_ended}

-- so many bytes were taken, and their lines that have ended are answered, where the files are told
pub record HasRead (source source_now : Option (List ℕ)) (count : ℕ) (run : Run) (folder folder_now : Option Folder) (shelf_before shelf_now : ℕ) (start now : Option (List ℕ)) : Type 0 where
  pub taken : List ℕ
  pub consumed : Consumes source source_now taken
  pub counted : count ≡ length taken
  pub answered : (m : Folder) → folder ≡ Some m → Answers m (lines taken) [] run folder_now shelf_before shelf_now start now

-- nothing was taken yet
pub read_none : (source : Option (List ℕ)) (run : Run) (folder : Option Folder) (faults : ℕ) (start : Option (List ℕ)) → IsFresh run → HasRead source source 0 run folder folder faults faults start start
read_none source run folder faults start fresh = record {
  taken = [];
  consumed = Consumes-nil source;
  counted = refl;
  answered = λ m told. subst (λ o. Answers m (lines []) [] run o faults faults start start) (sym told) (fresh m faults start);
}

-- what may still follow: what is left of a source, where it is told
abbrev pub following : Option (List ℕ) → List ℕ
following None = []
following (Some rest) = rest

following-is : (o : Option (List ℕ)) → IfSome o (λ rest. rest ≡ following o)
following-is None = tt
following-is (Some rest) = refl

nothing_follows : (o : Option (List ℕ)) → IsAtEnd o → IfSome o (λ rest. rest ≡ [])
nothing_follows None h = tt
nothing_follows (Some rest) h = h

-- a run that stops before its first line
pub stops_first : (W : Type 0) → (W → ⊥) → (m : Folder) (bytes : List ℕ) (faults : ℕ) (start : Option (List ℕ)) → StopsAt W m (lines bytes) (Some m) faults faults start start
unfolding replies world_after
stops_first W never m bytes faults start =
    let f = lines-first bytes in
    record { ended = []; at = marked f.line false; others = f.others; all_lines = f.are; front = 0; written = appends_none start; files = inl (refl, refl, never); few = few-one f.line faults }

module _ (source : Option (List ℕ)) (folder : Option Folder) (shelf_before : ℕ) (start : Option (List ℕ)) where
  -- memory ran out before a byte was taken
  pub stops_none : (W : Type 0) → (W → ⊥) → TakesAndStops W source source folder folder shelf_before shelf_before start start
  stops_none W never = record {
    counted = [];
    follows = following source;
    taken = Consumes-nil source;
    few = omega arith;
    follows_is = following-is source;
    stops = λ m told. subst (λ o. StopsAt W m (lines (following source)) o shelf_before shelf_before start start) (sym told) (stops_first W never m (following source) shelf_before start);
  }

  module _ (b c : Option (List ℕ)) (count : ℕ) (old : Run) (then now : Option Folder) (shelf_then shelf_now : ℕ) (before after : Option (List ℕ)) (r : HasRead source b count old folder then shelf_before shelf_then start before) (few : count ≤ longest_script) where
    -- a read failed
    pub read_fails : Keeps b c → TakesAndAnswers 0 source c folder then shelf_before shelf_then start before
    read_fails kept = record {
      counted = r.taken;
      past = [];
      taken = subst (Consumes source c) (sym (append-nil r.taken)) (Consumes-kept source b c r.taken r.consumed kept);
      past_is = refl;
      few = omega (arith, r.counted);
      full = λ some. absurd (omega arith);
      answered = λ m told. answers_ended m r.taken old then shelf_before shelf_then start before (r.answered m told);
    }

    -- nothing is left
    module _ (last : Consumes b c []) (at_end : IsAtEnd c) where
      all_taken : Consumes source c r.taken
      all_taken = subst (Consumes source c) (append-nil r.taken) (Consumes-trans source b c r.taken [] r.consumed last)

      short : length r.taken < 2 ^ 64
      short = omega (arith, r.counted)

      pub read_end : (refused : Bool)
          → ((m : Folder) (script : List ℕ) (faults : ℕ) (start : Option (List ℕ)) → length script < 2 ^ 64 → Answers m (lines script) [] old then faults shelf_then start before → AnswersWhole m script now faults shelf_now start after refused)
          → TakesWhole source c folder now shelf_before shelf_now start after refused
      read_end refused finished = record {
        script = r.taken;
        taken = all_taken;
        at_end = at_end;
        few = omega (arith, r.counted);
        answered = λ m told. finished m r.taken shelf_before start short (r.answered m told);
      }

      pub stops_end : (W : Type 0) → ((m : Folder) (script : List ℕ) (faults : ℕ) (start : Option (List ℕ)) → length script < 2 ^ 64 → Answers m (lines script) [] old then faults shelf_then start before → StopsAt W m (lines script) now faults shelf_now start after)
          → TakesAndStops W source c folder now shelf_before shelf_now start after
      stops_end W stopped = record {
        counted = r.taken;
        follows = [];
        taken = all_taken;
        few = omega (arith, r.counted);
        follows_is = nothing_follows c at_end;
        stops = λ m told. subst (λ bytes. StopsAt W m (lines bytes) now shelf_before shelf_now start after) (sym (append-nil r.taken)) (stopped m r.taken shelf_before start short (r.answered m told));
      }

    -- a piece more
    module _ (n : ℕ) (piece : List ℕ) (took : Consumes b c piece) (long : n ≡ length piece) where
      more_taken : Consumes source c (r.taken ++ piece)
      more_taken = Consumes-trans source b c r.taken piece r.consumed took

      more_length : count + n ≡ length (r.taken ++ piece)
      more_length = omega (arith, length-append r.taken piece, r.counted)

      -- past the limit
      pub read_long : count + n ≡ longest_script + 1 → n ≡ 1 → TakesAndAnswers 1 source c folder then shelf_before shelf_then start before
      read_long over one = record {
        counted = r.taken;
        past = piece;
        taken = more_taken;
        past_is = omega arith;
        few = omega (arith, r.counted);
        full = λ some. omega (arith, r.counted);
        answered = λ m told. answers_ended m r.taken old then shelf_before shelf_then start before (r.answered m told);
      }

      module _ (within : count + n ≤ longest_script) where
        below : length (r.taken ++ piece) < 2 ^ 64
        below = omega (arith, more_length)

        pub read_more : (new : Run) → ((m : Folder) (taken : List ℕ) (faults : ℕ) (start : Option (List ℕ)) → length (taken ++ piece) < 2 ^ 64 → Answers m (lines taken) [] old then faults shelf_then start before
            → Answers m (lines (taken ++ piece)) [] new now faults shelf_now start after) → HasRead source c (count + n) new folder now shelf_before shelf_now start after
        read_more new more = record { taken = r.taken ++ piece; consumed = more_taken; counted = more_length; answered = λ m told. more m r.taken shelf_before start below (r.answered m told) }

        pub stops_more : (W : Type 0) → ((m : Folder) (taken more : List ℕ) (faults : ℕ) (start : Option (List ℕ)) → length (taken ++ piece) < 2 ^ 64 → Answers m (lines taken) [] old then faults shelf_then start before
            → StopsAt W m (lines ((taken ++ piece) ++ more)) now faults shelf_now start after) → TakesAndStops W source c folder now shelf_before shelf_now start after
        stops_more W stopped = record {
          counted = r.taken ++ piece;
          follows = following c;
          taken = more_taken;
          few = omega (arith, more_length);
          follows_is = following-is c;
          stops = λ m told. stopped m r.taken (following c) shelf_before start below (r.answered m told);
        }
