-- What clauses see of the objects in memory, and which of their calls fail.
use Rattle.std.specs.Prelude.{◌+◌, ◌-◌, ◌^◌, ◌==◌, ◌&&◌, ℕ, Bool, List, nat_lt, if◌then◌else◌, refl}
use Rattle.std.specs.List.{list_any}
use Rattle.std.specs.Result.{is_ok}
use Rattle.std.specs.Coded.{Coded, code_by, coded×, coded_bool, coded_ℕ, coded_list}
use Rattle.std.specs.FinMap as map
use Rattle.ls_edge.specs.Files.{Folder, given}

-- a source that never fails: the bytes that it has left, and the most that one call moves
pub record SureSourceState : Type 0 where
  pub left : List ℕ
  pub piece : ℕ

-- a sink that never fails: the bytes that were written, and the most that one call moves
pub record SureSinkState : Type 0 where
  pub written : List ℕ
  pub piece : ℕ

-- a source with calls that fail: also the numbers of the calls that fail, and how many
-- were made and how many failed
pub record SourceState : Type 0 where
  pub left : List ℕ
  pub piece : ℕ
  pub fails : List ℕ
  pub calls : ℕ
  pub faults : ℕ

-- a sink with calls that fail
pub record SinkState : Type 0 where
  pub written : List ℕ
  pub piece : ℕ
  pub fails : List ℕ
  pub calls : ℕ
  pub faults : ℕ

-- a shelf that never fails: its files, and how many calls were made
pub record SureShelfState : Type 0 where
  pub files : Folder
  pub calls : ℕ

-- a shelf with calls that fail: also whether the last one did
pub record ShelfState : Type 0 where
  pub files : Folder
  pub fails : List ℕ
  pub calls : ℕ
  pub faults : ℕ
  pub failed : Bool

-- the code of a map of files
abbrev pub folder_code : Coded Folder
folder_code = map.code (coded_list coded_ℕ) (coded_list coded_ℕ)

-- a shelf that never fails is stored as the pair of its fields
abbrev pub sure_shelf_code : Coded SureShelfState
sure_shelf_code =
    code_by (Folder × ℕ) (coded× folder_code coded_ℕ)
    (λ s. (s.files, s.calls))
    (λ t. record { files = t.0; calls = t.1 })
    (λ _. refl)

-- a shelf with calls that fail is stored as the tuple of its fields
abbrev pub shelf_code : Coded ShelfState
shelf_code =
    code_by ((Folder × List ℕ) × ((ℕ × ℕ) × Bool))
    (coded× (coded× folder_code (coded_list coded_ℕ)) (coded× (coded× coded_ℕ coded_ℕ) coded_bool))
    (λ s. ((s.files, s.fails), ((s.calls, s.faults), s.failed)))
    (λ t. record {
      files = t.0.0;
      fails = t.0.1;
      calls = t.1.0.0;
      faults = t.1.0.1;
      failed = t.1.1;
    })
    (λ _. refl)

-- a shelf over a folder: how many calls were made on it, how many of them failed, and whether the
-- last one did
pub record FolderShelfState : Type 0 where
  pub calls : ℕ
  pub faults : ℕ
  pub failed : Bool

-- the numbers of the calls that fail, how many calls were made and how many of them failed, and
-- whether the last one did
pub record CallState : Type 0 where
  pub fails : List ℕ
  pub calls : ℕ
  pub faults : ℕ
  pub last : Bool

-- the call after so many fails
abbrev pub fails_next : List ℕ → ℕ → Bool
fails_next fails calls = nat_lt calls (2 ^ 64 - 1) && list_any (λ n. n == calls + 1) fails

-- how many calls have failed after the next one
abbrev pub next_faults : List ℕ → ℕ → ℕ → ℕ
next_faults fails calls faults = if fails_next fails calls then faults + 1 else faults

-- the next call fails where it fetches this file; one that has none to give doesn't fail
abbrev pub fetch_fails : ShelfState → List ℕ → Bool
fetch_fails s name = is_ok (given (map.get s.files name)) && fails_next s.fails s.calls

-- how many calls have failed after that fetch
abbrev pub fetch_faults : ShelfState → List ℕ → ℕ
fetch_faults s name = if fetch_fails s name then s.faults + 1 else s.faults
