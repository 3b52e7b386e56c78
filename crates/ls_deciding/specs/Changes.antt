-- What a command makes of a part of the session, and what is kept beside the interview.
use Rattle.std.specs.Prelude.{◌≡◌, List, Result, IfOk, OnOk, OnErr}
use Rattle.std.specs.declared.alloc.AllocError.{AllocError}
use Rattle.ls_theory.specs.{Interview, yes_queries}
use Rattle.ls_base.specs.Trail.{IsTrail}
use Rattle.ls_base.specs.declared.trail.Entry.{Entry}
use Rattle.ls_meaning.specs.{Change}
use Rattle.ls_meaning.specs.declared.response.Response.{Response}

-- the change's response and what it makes of a part of the session; or memory ran out, and the part
-- is as before
pub record MakesChange {A : Type 0} (change : Change A) (old new : A)
    (result : Result Response AllocError) : Type 0 where
  pub response : IfOk result (λ r. r ≡ change.response)
  pub next : OnOk result (new ≡ change.next)
  pub undone : OnErr result (new ≡ old)

-- what is followed over the first Yes answers of the interview
abbrev pub IsTrailOf : Interview → List Entry → Type 0
IsTrailOf i trail = IsTrail i.count i.start (yes_queries i.answers) trail
