-- Pupils that begin.
use Rattle.std.specs.Prelude.{◌≡◌, List, [], ◌∷◌, ◌++◌, length, slice_get, Some, Result, Ok, Err}
use Rattle.std.specs.declared.alloc.AllocError.{AllocError}
use Rattle.ls_theory.specs.{Interview, compatible_sets}
use Rattle.ls_theory.specs.Settings.{Settings}
use Rattle.ls_weight.specs.Weighings.{Weighing}
use Rattle.ls_weight.specs.declared.fault.WeightFault.{WeightFault}
use Rattle.ls_weight.specs.declared.fault.WeightFault.TheVariants.{Heavy, Memory}
use Rattle.ls_cutting.specs.{Text}
use Rattle.ls_meaning.specs.{Change, new_pupil, weighing_refusals}
use Rattle.ls_meaning.specs.Sessions.{Pupil}
use Rattle.ls_meaning.specs.declared.response.Refusal.{Refusal}
use Rattle.ls_meaning.specs.declared.response.Refusal.TheVariants as refusal
use Rattle.ls_meaning.specs.declared.response.Response.TheVariants.{Done}
use Rattle.ls_pupils.specs.Cases.{IsCase}
use Rattle.ls_pupils.specs.declared.cases.PupilCase.{PupilCase}

-- a case of the interview's items whose states are those of the interview
abbrev pub IsCaseOf : Interview → PupilCase → Type 0
IsCaseOf i c = IsCase i.count c × (c.pupil.states ≡ compatible_sets i)

-- a pupil over the states of the interview with no replies, where these can be weighed; or the
-- first refusal
abbrev pub IsNewPupil : Interview → Settings → Result Weighing Refusal → Type 0
IsNewPupil i s (Ok p) =
    (p ≡ record { settings = s; states = compatible_sets i; replies = [] })
    × (weighing_refusals s (length (compatible_sets i)) ≡ [])
IsNewPupil i s (Err r) = slice_get (weighing_refusals s (length (compatible_sets i))) 0 ≡ Some r

-- the pupil that begins; or the refusal of one that is too heavy; or want of memory
abbrev pub RefusesHeavy :
    Result Weighing WeightFault → Result (Result Weighing Refusal) AllocError → Type 0
RefusesHeavy (Ok p) result = result ≡ Ok (Ok p)
RefusesHeavy (Err (Heavy replies)) result = result ≡ Ok (Err (refusal.Heavy replies))
RefusesHeavy (Err (Memory e)) result = result ≡ Err e

-- the pupil stands last, and the number of its states is told
abbrev pub begun_row : Interview → Settings → List Pupil → Text → Change (List Pupil)
begun_row i s pupils name = record {
  response = Done (length (compatible_sets i));
  next = pupils ++ new_pupil name i s ∷ [];
}
