-- What the calls on a shelf do to its files, where these are told.
use Rattle.std.specs.Prelude.{◌≡◌, ◌≤◌, ℕ, List, [], ◌∷◌, length, nat_lt, ◌<◌, ⊤, Result, Ok, Err}
use Rattle.std.specs.Prelude.{Some, None, IsErrOf, IfSome, MatchResult, Vec, if◌then◌else◌}
use Rattle.std.specs.declared.option.Option.{Option}
use Rattle.std.specs.declared.alloc.Global.{Global}
use Rattle.std.specs.Ordering.{nat_cmp}
use Rattle.std.specs.Cmp.Lexicographic.{slice_cmp}
use Rattle.std.specs.declared.string.String.{String}
use Rattle.std.specs.String.{string_bytes}
use Rattle.std.specs.FinMap as map
use Rattle.ls_edge.specs.Causes.{Rose}
use Rattle.ls_edge.specs.declared.traits.FetchFault.{FetchFault}
use Rattle.ls_edge.specs.declared.traits.FetchFault.TheVariants as fetch
use Rattle.ls_edge.specs.declared.traits.StoreFault.{StoreFault}
use Rattle.ls_edge.specs.declared.traits.StoreFault.TheVariants as store

-- the most bytes of a file
abbrev pub longest_file : ℕ
longest_file = 16777216

-- a length that a fault tells is more than the limit
abbrev pub TellsMore : FetchFault → Type 0
TellsMore fetch.Missing = ⊤
TellsMore (fetch.TooLarge bytes) = longest_file < bytes
TellsMore fetch.Failed = ⊤
TellsMore (fetch.Memory e) = ⊤

-- a finite map from names to bytes
abbrev pub Folder : Type 0
Folder = map.FinMap (slice_cmp nat_cmp) (List ℕ)

-- the files of a list of names and bytes
abbrev pub folder_of : List (String Global × Vec ℕ Global) → Folder
folder_of [] = map.empty
folder_of (file ∷ files) = map.insert (folder_of files) (string_bytes file.0) file.1.items

-- told files stay as they were
abbrev pub FolderStays : Option Folder → Option Folder → Type 0
FolderStays None new = ⊤
FolderStays (Some m) new = new ≡ Some m

-- these bytes and no others, unless the object failed or memory ran out
abbrev pub GivesBytes : List ℕ → Result (Vec ℕ Global) FetchFault → Type 0
GivesBytes bytes (Ok v) = v.items ≡ bytes
GivesBytes bytes (Err fetch.Missing) = ⊥
GivesBytes bytes (Err (fetch.TooLarge n)) = ⊥
GivesBytes bytes (Err fetch.Failed) = ⊤
GivesBytes bytes (Err (fetch.Memory e)) = ⊤

-- the bytes that a fetch of the file has to give, or why it has none to give
abbrev pub given : Option (List ℕ) → Result (List ℕ) FetchFault
given None = Err fetch.Missing
given (Some bytes) =
    if nat_lt longest_file (length bytes) then Err (fetch.TooLarge (length bytes)) else Ok bytes

-- what a fetch answers of the file that a name has: one that is missing and one that is too large
-- are always reported as such
abbrev pub FetchedFrom : Option (List ℕ) → Result (Vec ℕ Global) FetchFault → Type 0
FetchedFrom file result =
    MatchResult (given file) (λ bytes. GivesBytes bytes result) (λ e. result ≡ Err e)

-- a fetch changes no told file, and answers of the file that the name has
abbrev pub Fetches :
    Option Folder → Option Folder → List ℕ → Result (Vec ℕ Global) FetchFault → Type 0
Fetches old new name result =
    FolderStays old new × IfSome old (λ m. FetchedFrom (map.get m name) result)

-- a store sets the name to the bytes and leaves all other names,
-- and one that was refused leaves all
abbrev pub Stores :
    Option Folder → Option Folder → List ℕ → List ℕ → Result (Unit {0}) StoreFault → Type 0
Stores None new name bytes result = ⊤
Stores (Some m) new name bytes (Ok u) = new ≡ Some (map.insert m name bytes)
Stores (Some m) new name bytes (Err e) = new ≡ Some m

-- the count of faults never falls, and a fetch fails only where it rose
pub record FetchCause (before now : ℕ) (result : Result (Vec ℕ Global) FetchFault) : Type 0 where
  pub later : before ≤ now
  pub failed : IsErrOf result fetch.Failed → Rose before now

-- the same of a store
pub record StoreCause (before now : ℕ) (result : Result (Unit {0}) StoreFault) : Type 0 where
  pub later : before ≤ now
  pub failed : IsErrOf result store.Failed → Rose before now
