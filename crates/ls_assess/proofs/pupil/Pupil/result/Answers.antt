use Rattle.std.proofs.Common.{ℕ, ◌≡◌, true, List, get_or, slice_get, Some, refl, ap, ◌∙◌, sym}
use Rattle.std.proofs.lemmas.Map.Keys.{any_passes_from_place}
use Rattle.std.proofs.lemmas.Option.{slice_get_within, slice_get-get_or}
use Rattle.ls_set.specs.{Items, is_among, is_same}
use Rattle.ls_set.proofs.Sets.{Decides-is_same}
use Rattle.ls_assess.proofs.pupil.Pupil.result.Goals as goal

-- the set at a place of the list is among the list
at-place : (f : List Items) (i : ℕ) (k s : Items) → slice_get f i ≡ Some s → k ≡ get_or f i k → is_among f k ≡ true
at-place f i k s got here =
    any_passes_from_place (is_same k) f i k
    (slice_get-get_or f i k (slice_get_within f i s got) ∙ ap Some (sym here))
    ((Decides-is_same k k).1 refl)

pub returns-clause-state : goal.returns-clause-state
returns-clause-state c =
    let got = rw (← c.states.ensures.value) at c.leader-place.ensures in
    rw (← c.self.view_is, ← c.states.ensures.value) (at-place _ _ _ _ got c.index-states-place.is)
