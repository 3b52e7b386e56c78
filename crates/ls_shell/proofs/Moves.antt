-- Counts that rise, and what is done to a sink in several steps.
use Rattle.ls_shell.proofs.Vocabulary.{◌++◌, ◌≤◌, Appends, IsErrOf, IsExtended, List, MovesSink, Result, Rose, ℕ, appends_more, arith}
use Rattle.std.specs.declared.option.Option.{Option}

-- a count that rose since later rose since before
pub rose_since : (a b c : ℕ) → a ≤ b → Rose b c → Rose a c
rose_since a b c l h = omega arith

-- bytes were appended, and then more
pub extended : (a b c : Option (List ℕ)) → IsExtended a b → IsExtended b c → IsExtended a c
extended a b c h k = (h.0 ++ k.0, appends_more a b c h.0 k.0 h.1 k.1)

module _ {E : Type 0} (write : E) where
  -- bytes were written, and then more was done
  pub moves_more : {T : Type 0} (a b c : Option (List ℕ)) (before then now : ℕ) (r : Result T E) (bytes : List ℕ) → Appends a b bytes → before ≤ then → MovesSink write b c then now r → MovesSink write a c before now r
  moves_more a b c before then now r bytes w l m = record {
    kept = (_, appends_more a b c bytes m.kept.0 w m.kept.1);
    later = let k = m.later in omega arith;
    cause = λ e. rose_since before then now l (m.cause e);
  }

  -- the fault is passed on
  pub moves_same : {T U : Type 0} (a b : Option (List ℕ)) (before now : ℕ) (r : Result T E) (q : Result U E) → (IsErrOf q write → IsErrOf r write) → MovesSink write a b before now r → MovesSink write a b before now q
  moves_same a b before now r q same m = record { kept = m.kept; later = m.later; cause = λ e. m.cause (same e) }
