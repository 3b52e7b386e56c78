-- Results that are given by cases.
use Rattle.std.proofs.Common.{Err, IsOk, Ok, Result, refl}
use Rattle.std.specs.Result.{MatchResult}

pub ok-from : {X E : Type 0} (r : Result X E) (P : X → Type 0) (Q : E → Type 0) → MatchResult r P Q
    → ((e : E) → Q e → ⊥) → IsOk r
ok-from (Ok x) P Q h none = refl
ok-from (Err e) P Q h none = absurd (none e h)
