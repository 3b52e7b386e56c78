-- What the rows of pupils come to.
use Rattle.ls_pupils.proofs.Vocabulary.{◌++◌, ◌+◌, ◌<◌, ◌∷◌, ◌≡◌, ◌≤◌, Bool, Done, Err, IfOk, Interview, IsCase, IsNewPupil, RefusesHeavy, List, None, Ok, OnOk, Pupil, PupilCase, Refused, ReplyFault, Result, Some, Weighing, ℕ, [], asked, asked_of, begin_row, begun_row, changed, compatible_sets, le-leb, le-ltb, length, lt-leb, most_pupils, new_pupil, pupil_of_case, pupil_with, refl, replied, reply_fault, reply_row, slice_get, weighing_refusals, with_pupil}
use Rattle.std.specs.declared.alloc.AllocError.{AllocError}
use Rattle.ls_theory.specs.Settings.{Settings, most_states, heavy_after}
use Rattle.ls_weight.specs.declared.fault.WeightFault.{WeightFault}
use Rattle.ls_weight.specs.declared.fault.WeightFault.TheVariants.{Heavy, Memory}
use Rattle.ls_meaning.specs.declared.response.Refusal.{Refusal}
use Rattle.ls_meaning.specs.declared.response.Refusal.TheVariants as refusal
use Rattle.ls_meaning.specs.declared.response.Response.{Response}

-- the first of the refusals is told
pub changed-first : {A : Type 0} (old : A) (refusals : List Refusal) (response : Response) (next : A) (r : Refusal) → slice_get refusals 0 ≡ Some r → changed old refusals response next ≡ record { response = Refused r; next = old }
changed-first old [] response next r h = absurd (cc h)
changed-first old (x ∷ refusals) response next r h = let e : x ≡ r = cc h in rw e refl

-- ---- why states are not weighed

pub light-none : (s : Settings) (count : ℕ) → count ≤ most_states → heavy_after s count ≡ None → weighing_refusals s count ≡ []
light-none s count few light = rw (le-ltb most_states count few, light) refl

pub heavy-first : (s : Settings) (count r : ℕ) → count ≤ most_states → heavy_after s count ≡ Some r → slice_get (weighing_refusals s count) 0 ≡ Some (refusal.Heavy r)
heavy-first s count r few heavy = rw (le-ltb most_states count few, heavy) refl

pub refuses_heavy-new : (i : Interview) (s : Settings) (begun : Result Weighing WeightFault) (result : Result (Result Weighing Refusal) AllocError) → length (compatible_sets i) ≤ most_states
    → IfOk begun (λ p. p ≡ record { settings = s; states = compatible_sets i; replies = [] })
    → OnOk begun (heavy_after s (length (compatible_sets i)) ≡ None)
    → ((r : ℕ) → begun ≡ Err (Heavy r) → heavy_after s (length (compatible_sets i)) ≡ Some r)
    → RefusesHeavy begun result → IfOk result (IsNewPupil i s)
refuses_heavy-new i s (Ok p) result few is light heavy h = rw h (is, light-none s (length (compatible_sets i)) few light)
refuses_heavy-new i s (Err (Heavy r)) result few is light heavy h = rw h (heavy-first s (length (compatible_sets i)) r few (heavy r refl))
refuses_heavy-new i s (Err (Memory e)) result few is light heavy h = rw h tt

-- ---- replies

-- what a pupil of n items is asked is what its case is
pub asked-same : (n : ℕ) (c : PupilCase) → IsCase n c → asked_of n (pupil_of_case c) ≡ asked c.pupil.settings c.pupil.states c.pupil.replies
asked-same n c h = rw (h.settings, h.states) refl

pub row-taken : (n : ℕ) (pupils : List Pupil) (item : ℕ) (right : Bool) (p : Pupil) → reply_fault (asked_of n p) item ≡ None
    → reply_row n pupils item right (Some p) ≡ record { response = Done (length p.replies + 1); next = with_pupil pupils p.name (replied p item right) }
row-taken n pupils item right p h = rw h refl

pub row-refused : (n : ℕ) (pupils : List Pupil) (item : ℕ) (right : Bool) (p : Pupil) (fault : ReplyFault) → reply_fault (asked_of n p) item ≡ Some fault
    → reply_row n pupils item right (Some p) ≡ record { response = Refused (refusal.Reply fault); next = pupils }
row-refused n pupils item right p fault h = rw h refl

-- ---- pupils that begin

-- where a pupil stands, or too many do, or the states aren't weighed, that is told
pub begin-stands : (i : Interview) (s : Settings) (pupils : List Pupil) (name : List ℕ) (p : Pupil) → pupil_with pupils name ≡ Some p → begin_row i s pupils name ≡ record { response = Refused refusal.PupilStands; next = pupils }
begin-stands i s pupils name p h = rw h refl

pub begin-many : (i : Interview) (s : Settings) (pupils : List Pupil) (name : List ℕ) → pupil_with pupils name ≡ None → most_pupils ≤ length pupils → begin_row i s pupils name ≡ record { response = Refused refusal.ManyPupils; next = pupils }
begin-many i s pupils name none many = rw (none, le-leb most_pupils (length pupils) many) refl

pub begin-refused : (i : Interview) (s : Settings) (pupils : List Pupil) (name : List ℕ) (r : Refusal) → pupil_with pupils name ≡ None → length pupils < most_pupils
    → slice_get (weighing_refusals s (length (compatible_sets i))) 0 ≡ Some r → begin_row i s pupils name ≡ record { response = Refused r; next = pupils }
begin-refused i s pupils name r none few h =
    rw (none, lt-leb most_pupils (length pupils) few)
    (changed-first pupils (weighing_refusals s (length (compatible_sets i))) (Done (length (compatible_sets i))) (pupils ++ new_pupil name i s ∷ []) r h)

pub begin-begins : (i : Interview) (s : Settings) (pupils : List Pupil) (name : List ℕ) → pupil_with pupils name ≡ None → length pupils < most_pupils
    → weighing_refusals s (length (compatible_sets i)) ≡ [] → begin_row i s pupils name ≡ begun_row i s pupils name
begin-begins i s pupils name none few h = rw (none, lt-leb most_pupils (length pupils) few, h) refl
