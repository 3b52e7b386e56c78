-- What it means that nothing refuses a change.
use Rattle.ls_reached.proofs.Vocabulary.{◌++◌, ◌∷◌, ◌≡◌, Bool, List, None, Option, Refusal, Some, [], changed, false, refl, refuse, refuse_fault, true}
use Rattle.ls_meaning.specs.declared.response.Response.{Response}

-- what holds of the part as it was, and of what it would become where nothing refuses it, holds after the change
pub changed-holds : {A : Type 0} (P : A → Type 0) (old next : A) (refusals : List Refusal) (response : Response) → P old → (refusals ≡ [] → P next) → P (changed old refusals response next).next
changed-holds P old next [] response was becomes = becomes refl
changed-holds P old next (refusal ∷ refusals) response was becomes = was

pub none-both : (first second : List Refusal) → first ++ second ≡ [] → (first ≡ []) × (second ≡ [])
none-both [] second e = (refl, e)
none-both (refusal ∷ first) second e = absurd (cc e)

pub not-refused : (refusal : Refusal) (holds : Bool) → refuse refusal holds ≡ [] → holds ≡ false
not-refused refusal true e = absurd (cc e)
not-refused refusal false e = refl

pub no-fault : {F : Type 0} (refusal_of : F → Refusal) (fault : Option F) → refuse_fault refusal_of fault ≡ [] → fault ≡ None
no-fault refusal_of None e = refl
no-fault refusal_of (Some fault) e = absurd (cc e)
