-- Lines that are answered one after another.
use Rattle.ls_shell.proofs.Vocabulary.{◌++◌, ◌-◌, ◌||◌, ◌∙◌, ◌∷◌, ◌≡◌, ◌≤◌, ◌⊎◌, Answers, AnswersEnded, AnswersWhole, Appends, Bool, Calls, Effect, Folder, HasAnswered, Holds, IsAnswered, IsBegun, IsTaken, LeavesFiles, List, Marked, None, Rose, Run, Session, Some, StopsAt, TakesAndStops, World, ℕ, [], ahead, ahead-lines, answers, ap, append-nil, append_assoc, appends_keep, appends_more, appends_none, arith, bare_lines, bare_lines-append, begun_over, bytes_of, calls_of, command, command_effect, command_of, cut, drop, effect_at, false, folder_with, forms, goes_on, inl, inr, is_begun, is_of, is_refusal, line_effect, lines, marked, parts, refl, refuses, refuses-snoc, replies, replies-snoc, reply_at, reply_of, spelling, started, subst, sym, take, true, words, world_after, world_after-snoc, world_next}
use Rattle.std.proofs.Math.Bool.{or-false}
use Rattle.std.specs.declared.option.Option.{Option}
use Rattle.ls_meaning.specs.declared.response.Response.TheVariants.{Silence}
use Rattle.ls_shell.proofs.Past.{past_place}
use Rattle.ls_shell.proofs.Rises.{few-snoc, few-none}

-- an empty line has no reply
pub empty_line : (s : Session) (calls : Calls) → line_effect s calls [] ≡ answers s Silence
unfolding line_effect words is_of spelling parts command forms cut is_begun command_of command_effect
empty_line s calls = refl

module _ (m : Folder) where
  abbrev before_all : World
  before_all = begun_over m

  -- a run that has answered these lines
  pub record Continues (ended : List Marked) (run : Run) (left : Option Folder) (shelf_before shelf_now : ℕ) (start now : Option (List ℕ)) : Type 0 where
    pub session : run.session ≡ (world_after before_all ended).session
    pub told : run.is_refused ≡ refuses before_all ended
    pub answered : HasAnswered m ended left shelf_before shelf_now start now

  bare_lines-snoc : (ended : List Marked) (line : List ℕ) (failed : Bool) (others : List (List ℕ)) → bare_lines (ended ++ marked line failed ∷ []) ++ others ≡ bare_lines ended ++ line ∷ others
  bare_lines-snoc ended line failed others = ap (λ ls. ls ++ others) (bare_lines-append ended (marked line failed ∷ [])) ∙ append_assoc (bare_lines ended) (line ∷ []) others

  -- ---- one line

  module _ (ended : List Marked) (line : List ℕ) (failed : Bool) (old new : Run) (then left : Option Folder) (shelf_before shelf_then shelf_now : ℕ) (start before after : Option (List ℕ))
      (c : Continues ended old then shelf_before shelf_then start before) (later : shelf_then ≤ shelf_now) (cause : failed ≡ true → Rose shelf_then shelf_now) where
    abbrev place : World
    place = world_after before_all ended

    abbrev seen : World
    seen = record { session = old.session; folder = place.folder }

    same_place : seen ≡ place
    same_place = ap (λ (s : Session). record { session = s; folder = place.folder }) c.session

    -- a marked line more is answered, and there are no more marks than the count rose
    pub line_more : IsAnswered seen (marked line failed) old new left before after → Continues (ended ++ marked line failed ∷ []) new left shelf_before shelf_now start after
    line_more h =
        let at = marked line failed in
        let next : world_next seen at ≡ world_after before_all (ended ++ at ∷ []) = ap (λ (w : World). world_next w at) same_place ∙ sym (world_after-snoc before_all ended at) in
        record {
          session = h.session ∙ ap (λ (w : World). w.session) next;
          told = h.told ∙ ap (λ b. b || is_refusal (reply_at seen at)) c.told ∙ ap (λ (w : World). refuses before_all ended || is_refusal (reply_at w at)) same_place ∙ sym (refuses-snoc before_all ended at);
          answered = record {
            written = subst (Appends start after) (ap (λ (w : World). replies before_all ended ++ reply_at w at) same_place ∙ sym (replies-snoc before_all ended at)) (appends_more start before after _ _ c.answered.written h.written);
            files = h.files ∙ ap (λ (w : World). Some w.folder) next;
            few = few-snoc ended at shelf_before shelf_then shelf_now later cause c.answered.few;
          };
        }

    front_written : (W : Type 0) → IsBegun W seen (marked line failed) left before after
        → (front : ℕ) × Appends start after (replies before_all ended ++ take front (reply_at place (marked line failed))) × LeavesFiles W place (marked line failed) left front
    front_written W (inl h) = (0, subst (Appends start after) (sym (append-nil (replies before_all ended))) (appends_keep start before after _ c.answered.written h.1), inl (h.0, refl, h.2))
    front_written W (inr h) =
        let at = marked line failed in (
          h.1.0,
          appends_more start before after _ _ c.answered.written (subst (λ (w : World). Appends before after (take h.1.0 (reply_at w at))) same_place h.1.2),
          inr (subst (λ (w : World). left ≡ Some (world_next w at).folder) same_place h.0),
        )

    -- the run stops at the line
    pub line_stops : (W : Type 0) (all others : List (List ℕ)) → bare_lines ended ++ line ∷ others ≡ all → IsBegun W seen (marked line failed) left before after → StopsAt W m all left shelf_before shelf_now start after
    line_stops W all others e h =
        let f = front_written W h in
        record {
          ended = ended;
          at = marked line failed;
          others = others;
          all_lines = e;
          front = f.0;
          written = f.1;
          files = f.2;
          few = few-snoc ended (marked line failed) shelf_before shelf_then shelf_now later cause c.answered.few;
        }

  -- ---- a run

  pub answers_none : (run : Run) (faults : ℕ) (now : Option (List ℕ)) → run.session ≡ started [] → run.is_refused ≡ false → Holds run.cutter [] → Answers m (lines []) [] run (Some m) faults faults now now
  unfolding lines world_after refuses replies
  answers_none run faults now s r h = record {
    ended = [];
    pending = [];
    all_lines = refl;
    held = h;
    session = s;
    told = r;
    answered = record { written = appends_none now; files = refl; few = few-none faults };
  }

  pub lines_last : (ended : List (List ℕ)) (pending all : List ℕ) → ended ++ ahead pending (lines []) ≡ lines all → lines all ≡ ended ++ pending ∷ []
  unfolding lines
  lines_last ended pending all e = sym e ∙ ap (λ l. ended ++ l ∷ []) (append-nil pending)

  -- more bytes come
  pub answers_on : (taken piece : List ℕ) (run : Run) (left : Option Folder) (shelf_before shelf_now : ℕ) (start now : Option (List ℕ)) → Answers m (lines taken) [] run left shelf_before shelf_now start now
      → Answers m (lines (taken ++ piece)) piece run left shelf_before shelf_now start now
  answers_on taken piece run left shelf_before shelf_now start now a = record {
    ended = a.ended;
    pending = a.pending;
    all_lines = sym (goes_on taken piece (bare_lines a.ended) a.pending (lines_last (bare_lines a.ended) a.pending taken a.all_lines));
    held = a.held;
    session = a.session;
    told = a.told;
    answered = a.answered;
  }

  whole : (ended : List (List ℕ)) (pending rest : List ℕ) (all : List (List ℕ)) → lines rest ≡ rest ∷ [] → ended ++ ahead pending (lines rest) ≡ all → ended ++ ahead (pending ++ rest) (lines []) ≡ all
  unfolding lines
  whole ended pending rest all one e = ap (λ l. ended ++ l ∷ []) (append-nil (pending ++ rest)) ∙ ap (λ ls. ended ++ ahead pending ls) (sym one) ∙ e

  -- the rest was taken, and no line ended
  pub answers_kept : (all : List (List ℕ)) (rest : List ℕ) (n : ℕ) (old mid : Run) (left : Option Folder) (shelf_before shelf_now : ℕ) (start now : Option (List ℕ)) → mid.session ≡ old.session → mid.is_refused ≡ old.is_refused
      → (a : Answers m all rest old left shelf_before shelf_now start now) → IsTaken mid.cutter a.pending rest n None → Answers m all [] mid left shelf_before shelf_now start now
  answers_kept all rest n old mid left shelf_before shelf_now start now s r a t = record {
    ended = a.ended;
    pending = a.pending ++ rest;
    all_lines = whole (bare_lines a.ended) a.pending rest all t.1 a.all_lines;
    held = t.2;
    session = s ∙ a.session;
    told = r ∙ a.told;
    answered = a.answered;
  }

  -- the line that ended, and those that follow
  pub cut_line : (all : List (List ℕ)) (ended : List (List ℕ)) (pending rest : List ℕ) (n : ℕ) → ended ++ ahead pending (lines rest) ≡ all → lines rest ≡ take (n - 1) rest ∷ lines (drop n rest)
      → ended ++ (pending ++ take (n - 1) rest) ∷ lines (drop n rest) ≡ all
  cut_line all ended pending rest n e cut = ap (λ ls. ended ++ ahead pending ls) (sym cut) ∙ e

  pub answers_taken : (all : List (List ℕ)) (rest : List ℕ) (n : ℕ) (ended : List Marked) (pending : List ℕ) (failed : Bool) (run : Run) (left : Option Folder) (shelf_before shelf_now : ℕ) (start now : Option (List ℕ))
      → bare_lines ended ++ ahead pending (lines rest) ≡ all → lines rest ≡ take (n - 1) rest ∷ lines (drop n rest) → Holds run.cutter []
      → Continues (ended ++ marked (pending ++ take (n - 1) rest) failed ∷ []) run left shelf_before shelf_now start now → Answers m all (drop n rest) run left shelf_before shelf_now start now
  answers_taken all rest n ended pending failed run left shelf_before shelf_now start now e cut held c =
      let line = pending ++ take (n - 1) rest in
      record {
        ended = ended ++ marked line failed ∷ [];
        pending = [];
        all_lines = bare_lines-snoc ended line failed (ahead [] (lines (drop n rest))) ∙ ap (λ ls. bare_lines ended ++ line ∷ ls) (ahead-lines (drop n rest)) ∙ cut_line all (bare_lines ended) pending rest n e cut;
        held = held;
        session = c.session;
        told = c.told;
        answered = c.answered;
      }

  -- where a line ended, more bytes may come past it
  pub cut_past : (bytes more : List ℕ) (ended : List Marked) (pending rest : List ℕ) (n : ℕ) → bare_lines ended ++ ahead pending (lines rest) ≡ lines bytes → lines rest ≡ take (n - 1) rest ∷ lines (drop n rest)
      → bare_lines ended ++ (pending ++ take (n - 1) rest) ∷ lines (drop n rest ++ more) ≡ lines (bytes ++ more)
  cut_past bytes more ended pending rest n e cut =
      let line = pending ++ take (n - 1) rest in
      sym (append_assoc (bare_lines ended) (line ∷ []) (lines (drop n rest ++ more)))
      ∙ past_place bytes (drop n rest) more (bare_lines ended ++ line ∷ []) (append_assoc (bare_lines ended) (line ∷ []) (lines (drop n rest)) ∙ cut_line (lines bytes) (bare_lines ended) pending rest n e cut)

  -- ---- the end

  pub answers_ended : (bytes : List ℕ) (run : Run) (left : Option Folder) (shelf_before shelf_now : ℕ) (start now : Option (List ℕ)) → Answers m (lines bytes) [] run left shelf_before shelf_now start now
      → AnswersEnded m bytes left shelf_before shelf_now start now
  answers_ended bytes run left shelf_before shelf_now start now a =
      record { ended = a.ended; pending = a.pending; all_lines = sym (lines_last (bare_lines a.ended) a.pending bytes a.all_lines); answered = a.answered }

  -- the last line is answered
  pub answers_last : (script : List ℕ) (ended : List Marked) (line : List ℕ) (failed : Bool) (run : Run) (left : Option Folder) (shelf_before shelf_now : ℕ) (start now : Option (List ℕ)) → lines script ≡ bare_lines ended ++ line ∷ []
      → Continues (ended ++ marked line failed ∷ []) run left shelf_before shelf_now start now → AnswersWhole m script left shelf_before shelf_now start now run.is_refused
  answers_last script ended line failed run left shelf_before shelf_now start now e c = record {
    ended = ended ++ marked line failed ∷ [];
    all_lines = bare_lines-append ended (marked line failed ∷ []) ∙ sym e;
    told = c.told;
    answered = c.answered;
  }

  -- it was empty
  pub empty_more : (ended : List Marked) (run : Run) (left : Option Folder) (shelf_before shelf_now : ℕ) (start now : Option (List ℕ)) → Continues ended run left shelf_before shelf_now start now
      → Continues (ended ++ marked [] false ∷ []) run left shelf_before shelf_now start now
  unfolding bytes_of
  empty_more ended run left shelf_before shelf_now start now c =
      let at = marked [] false in
      let seen : World = record { session = run.session; folder = (world_after before_all ended).folder } in
      let none : effect_at seen at ≡ answers run.session Silence = empty_line run.session (calls_of seen.folder false) in
      line_more ended [] false run run left left shelf_before shelf_now shelf_now start now now c (omega arith) (λ f. absurd (cc f)) (record {
        session = sym (ap (λ (x : Effect). x.session) none);
        cutter = refl;
        told = sym (ap (λ (x : Effect). run.is_refused || is_refusal (reply_of x)) none ∙ or-false run.is_refused);
        files = c.answered.files ∙ sym (ap (λ (x : Effect). Some (folder_with seen.folder x.stored)) none);
        written = subst (Appends now now) (sym (ap (λ (x : Effect). reply_of x) none)) (appends_none now);
      })

-- where a fault of writing is known from other facts
files_if : (A B X Y Z : Type 0) → (B → A) → (X × Y × (A → ⊥)) ⊎ Z → (X × Y × (B → ⊥)) ⊎ Z
files_if A B X Y Z f (inl h) = inl (h.0, h.1, λ b. h.2 (f b))
files_if A B X Y Z f (inr h) = inr h

pub stops_if : (A B : Type 0) (m : Folder) (all : List (List ℕ)) (left : Option Folder) (shelf_before shelf_now : ℕ) (start now : Option (List ℕ)) → (B → A) → StopsAt A m all left shelf_before shelf_now start now → StopsAt B m all left shelf_before shelf_now start now
stops_if A B m all left shelf_before shelf_now start now f h =
    record { ended = h.ended; at = h.at; others = h.others; all_lines = h.all_lines; front = h.front; written = h.written; files = files_if A B _ _ _ f h.files; few = h.few }

pub takes_if : (A B : Type 0) (source source_left : Option (List ℕ)) (folder left : Option Folder) (shelf_before shelf_now : ℕ) (before after : Option (List ℕ)) → (B → A)
    → TakesAndStops A source source_left folder left shelf_before shelf_now before after → TakesAndStops B source source_left folder left shelf_before shelf_now before after
takes_if A B source source_left folder left shelf_before shelf_now before after f h = record {
  counted = h.counted;
  follows = h.follows;
  taken = h.taken;
  few = h.few;
  follows_is = h.follows_is;
  stops = λ m told. stops_if A B m (lines (h.counted ++ h.follows)) left shelf_before shelf_now before after f (h.stops m told);
}
