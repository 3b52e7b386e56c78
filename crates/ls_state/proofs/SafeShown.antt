-- What is answered of the safe interview can be said.
use Rattle.ls_state.proofs.Vocabulary.{[], ◌∷◌, ◌≡◌, CanSay, CursorFault, Err, Interview, IsAfterOn, IsSafeOn, Items, List, None, Ok, Option, Result, SafeCommand, SafeInterview, SafeRequest, Some, Text, ℕ, changed, length, safe_of, safe_row, safe_states_row, sym}
use Rattle.ls_lines.specs.declared.safe.SafeCommand.TheVariants as safes
use Rattle.ls_meaning.specs.declared.request.SafeRequest.TheVariants as request
use Rattle.ls_meaning.specs.declared.response.Refusal.{Refusal}
use Rattle.ls_meaning.specs.declared.response.Response.{Response}
use Rattle.ls_state.proofs.Meant.{after-on}

-- the cursor of what is asked is one of the items
pub safe_of-on : (names : List Text) (c : SafeCommand) → IsSafeOn (length names) (safe_of names c)
safe_of-on names safes.Open = tt
safe_of-on names (safes.Answer ws w) = tt
safe_of-on names safes.List = tt
safe_of-on names (safes.States count after) = after-on (length names) after
safe_of-on names safes.Close = tt

module _ (n : ℕ) (i : Interview) (items : n ≡ i.count) where
  can-changed : {A : Type 0} (old next : A) (refusals : List Refusal) (r : Response) → CanSay n i r → CanSay n i (changed old refusals r next).response
  can-changed old next [] r can = can
  can-changed old next (refusal ∷ refusals) r can = tt

  can-states : (s : SafeInterview) (count : ℕ) (after : Result (Option Items) CursorFault) → IsAfterOn n after → CanSay n i (safe_states_row i.count s count after)
  can-states s count (Ok after) on = (sym items, on)
  can-states s count (Err fault) on = tt

  pub can-safe : (o : Option SafeInterview) (asked : SafeRequest) → IsSafeOn n asked → CanSay n i (safe_row i o asked).response
  can-safe o request.Open on = search (can-changed)
  can-safe (Some s) (request.Answer r) on = search (can-changed)
  can-safe (Some s) request.List on = tt
  can-safe (Some s) (request.States count after) on = can-states s count after on
  can-safe (Some s) request.Close on = tt
  can-safe None (request.Answer r) on = tt
  can-safe None request.List on = tt
  can-safe None (request.States count after) on = tt
  can-safe None request.Close on = tt
