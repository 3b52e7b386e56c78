-- What a refusal tells: a code, and details.
use Rattle.std.specs.Prelude.{ℕ, List}
use Rattle.ls_set.specs.{Items}
use Rattle.ls_lines.specs.{Text}

-- a detail: a word, a number, the name of an item, or a set
pub data Detail : Type 0 where
  Word : Text → Detail
  Number : ℕ → Detail
  Item : ℕ → Detail
  Set : Items → Detail

-- what is told: a code, and details
pub record Notice : Type 0 where
  pub code : ℕ
  pub details : List Detail

-- the notice with this code and these details
abbrev pub told : ℕ → List Detail → Notice
told code details = record { code = code; details = details }
