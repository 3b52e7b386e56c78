-- What a run of writes does to the known bytes.
use Rattle.std.proofs.Common.{ℕ, ◌+◌, List, take, drop}
use Rattle.std.specs.declared.option.Option.{Option}
use Rattle.std.specs.Io.KnownBytes.{Appends}
use Rattle.std.proofs.Math.Seq.{take-add}
use Rattle.std.proofs.KnownBytes.{Appends-trans}
pub use Rattle.std.proofs.KnownBytes.{Appends-nil as appends_none, Appends-kept as appends_keep, Appends-trans as appends_more}

-- a front of n bytes, and then the k bytes after it
pub appends_front : (a b c : Option (List ℕ)) (n k : ℕ) (xs : List ℕ) → Appends a b (take n xs) → Appends b c (take k (drop n xs)) → Appends a c (take (n + k) xs)
appends_front a b c n k xs p q = rw (take-add n k xs) (Appends-trans a b c (take n xs) (take k (drop n xs)) p q)
