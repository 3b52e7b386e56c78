-- Whole sessions: those that a program can come to.
use Rattle.std.specs.Prelude.{◌≡◌, ℕ, ◌+◌, ◌<◌, ◌≤◌, true, List, map, length, None, Ok, ⊤}
use Rattle.std.specs.List.{AllByRecursion, IsDistinct, list_all}
use Rattle.ls_set.specs.{Items, is_good}
use Rattle.ls_theory.specs.Starts.{Start, Free, Clauses, Sets}
use Rattle.ls_theory.specs.{Interview, are_settings, based, is_same_query, most_answers}
use Rattle.ls_theory.specs.{most_number}
use Rattle.ls_laws.specs.Forced.{IsSound, IsNumbered}
use Rattle.ls_clauses.specs.Surmise.{IsSurmise}
use Rattle.ls_domain.specs.Domains.{IsDomain}
use Rattle.ls_files.specs.SurmiseFiles.{wide}
use Rattle.ls_files.specs.Sessions.{Pupil, Session}
use Rattle.ls_files.specs.Standing.{are_made, is_pupil, are_pupils}

-- ---- starts

-- a surmise function that has not too many distinct clauses
pub record IsNarrow (n : ℕ) (clauses : List (List Items)) : Type 0 where
  pub surmise : IsSurmise n clauses
  pub few : wide n clauses ≡ None

-- a start on n items: the sets of a base are those of the base that they give
abbrev pub IsStart : ℕ → Start → Type 0
IsStart n Free = ⊤
IsStart n (Clauses clauses) = IsNarrow n clauses
IsStart n (Sets sets) = based n sets ≡ Ok sets

-- ---- answers

-- Answers that stand: some space fits them, they stand in order of number, below the next number,
-- their queries are good, and
-- none is there twice; and there is room for them.
pub record IsStanding (i : Interview) : Type 0 where
  pub sound : IsSound i
  pub good : list_all (λ a. is_good i.count a.query) i.answers ≡ true
  pub distinct : IsDistinct is_same_query (map (λ a. a.query) i.answers)
  pub numbered : IsNumbered i
  pub few_answers : length i.answers ≤ most_answers
  pub some_number : 0 < i.next
  pub numbers_left : i.next ≤ most_number + 1

-- ---- sessions

-- a pupil on n items
pub record IsPupil (n : ℕ) (p : Pupil) : Type 0 where
  pub start : IsStart n p.start
  pub settings : are_settings n p.settings ≡ true
  pub stands : is_pupil n p ≡ true

-- its parts have one number of items; its answers stand; and its pupils are not too many, and their
-- names differ
pub record IsWhole (s : Session) : Type 0 where
  pub domain : IsDomain s.names
  pub count : s.interview.count ≡ length s.names
  pub settings : are_settings s.interview.count s.settings ≡ true
  pub start : IsStart s.interview.count s.interview.start
  pub blocks : are_made s.interview.count s.interview.block ≡ true
  pub answers : IsStanding s.interview
  pub pupils : AllByRecursion (IsPupil s.interview.count) s.pupils
  pub apart : are_pupils s.pupils ≡ true
