-- A script whose source is told, and no marks.
use Rattle.ls_shell.proofs.Vocabulary.{◌++◌, ◌<◌, ◌∙◌, ◌≡◌, ◌≤◌, AnswersWhole, Appends, Bool, Consumes, Folder, IfSome, IsAtEnd, List, Marked, None, Rose, Some, StopsAt, TakesAndStops, TakesFew, TakesWhole, WritesTranscript, ℕ, [], ap, append-nil, append_cancel_right, arith, begun_over, length, length-append, lines, longest_script, refl, refuses, replies, subst, sym, unmarked, world_after}
use Rattle.std.specs.declared.option.Option.{Option}
use Rattle.ls_shell.proofs.Rises.{no_marks}

-- few bytes were taken, and not more
pub took_few : (old new : Option (List ℕ)) (bytes taken rest : List ℕ) (most : ℕ) → Consumes old new bytes → length bytes ≤ most → old ≡ Some (taken ++ rest) → new ≡ Some rest → most < length taken → ⊥
took_few old new bytes taken rest most told few before after many =
    let parts : taken ++ rest ≡ bytes ++ rest = subst (λ n. Consumes (Some (taken ++ rest)) n bytes) after (subst (λ o. Consumes o new bytes) before told) in
    omega (arith, ap length (append_cancel_right taken bytes rest parts))

-- what a told source has is what was taken of it, and what is left
module _ (script : List ℕ) where
  taken_all : (new : Option (List ℕ)) (bytes : List ℕ) → Consumes (Some script) new bytes → IsAtEnd new → (bytes ≡ script) × (new ≡ Some [])
  taken_all None bytes h e = absurd h
  taken_all (Some rest) bytes h e = (sym (append-nil bytes) ∙ ap (λ r. bytes ++ r) (sym e) ∙ sym h, ap (λ (r : List ℕ). Some r) e)

  taken_part : (new : Option (List ℕ)) (bytes follows : List ℕ) → Consumes (Some script) new bytes → IfSome new (λ rest. rest ≡ follows) → bytes ++ follows ≡ script
  taken_part None bytes follows h e = absurd h
  taken_part (Some rest) bytes follows h e = ap (λ r. bytes ++ r) (sym e) ∙ sym h

  pub taken_more : (new : Option (List ℕ)) (bytes : List ℕ) → Consumes (Some script) new bytes → longest_script < length bytes → TakesFew script new → ⊥
  taken_more None bytes h many few = absurd h
  taken_more (Some rest) bytes h many few = let all : script ≡ bytes ++ rest = h in omega (arith, few rest refl, ap length all, length-append bytes rest)

module _ (source source_left : Option (List ℕ)) (folder left : Option Folder) (shelf_before shelf_now : ℕ) (before after : Option (List ℕ)) where
  -- the whole script was answered
  pub whole_script : (script : List ℕ) (refused : Bool) → TakesWhole source source_left folder left shelf_before shelf_now before after refused → source ≡ Some script
      → (source_left ≡ Some []) × ((m : Folder) → folder ≡ Some m → AnswersWhole m script left shelf_before shelf_now before after refused)
  whole_script script refused h told =
      let all = taken_all script source_left h.script (subst (λ s. Consumes s source_left h.script) told h.taken) h.at_end in
      (all.1, λ m files. subst (λ s. AnswersWhole m s left shelf_before shelf_now before after refused) all.0 (h.answered m files))

  -- the run stopped in it
  pub stops_script : (W : Type 0) (script : List ℕ) (m : Folder) → TakesAndStops W source source_left folder left shelf_before shelf_now before after → source ≡ Some script → folder ≡ Some m → StopsAt W m (lines script) left shelf_before shelf_now before after
  stops_script W script m h told files =
      subst (λ s. StopsAt W m (lines s) left shelf_before shelf_now before after) (taken_part script source_left h.counted h.follows (subst (λ s. Consumes s source_left h.counted) told h.taken) h.follows_is) (h.stops m files)

-- where the count of the shelf's faults did not rise, the transcript was written
pub whole_unmarked : (m : Folder) (script : List ℕ) (left : Option Folder) (shelf_before shelf_now : ℕ) (before after : Option (List ℕ)) (refused : Bool) → AnswersWhole m script left shelf_before shelf_now before after refused → (Rose shelf_before shelf_now → ⊥)
    → WritesTranscript m script left before after refused
whole_unmarked m script left shelf_before shelf_now before after refused h quiet =
    let same : h.ended ≡ unmarked (lines script) = no_marks h.ended shelf_before shelf_now h.answered.few quiet ∙ ap unmarked h.all_lines in
    record {
      written = subst (λ (ls : List Marked). Appends before after (replies (begun_over m) ls)) same h.answered.written;
      files = h.answered.files ∙ ap (λ (ls : List Marked). Some (world_after (begun_over m) ls).folder) same;
      told = sym (h.told ∙ ap (refuses (begun_over m)) same);
    }
