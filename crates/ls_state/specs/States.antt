-- The parts of which a state is made, as contracts see them.
use Rattle.std.specs.Prelude.{◌≡◌, ◌<◌, List, length}
use Rattle.std.specs.declared.option.Option.{Option}
use Rattle.std.specs.Option.{ForSome}
use Rattle.ls_theory.specs.{Interview}
use Rattle.ls_theory.specs.Settings.{Settings}
use Rattle.ls_base.specs.declared.trail.Entry.{Entry}
use Rattle.ls_deciding.specs.Changes.{IsTrailOf}
use Rattle.ls_cutting.specs.{Text}
use Rattle.ls_meaning.specs.{Session}
use Rattle.ls_pupils.specs.Cases.{pupils_of, ArePupils}
use Rattle.ls_pupils.specs.declared.cases.PupilCase.{PupilCase}
use Rattle.ls_deciding.specs.Cases.{IsSafeCase, safe_interview}
use Rattle.ls_deciding.specs.declared.case.SafeCase.{SafeCase}

-- the session of names, an interview on their items, settings and pupils, and a safe interview
abbrev pub state_session : List Text → Interview → Settings → List PupilCase → Option SafeCase
    → Session
state_session names i settings cases safe =
    record {
      names = names;
      interview = i;
      settings = settings;
      pupils = pupils_of cases;
      safe = safe_interview safe;
    }

-- The parts belong together: there is a name for each item, and an item; a trail of the bases under
-- the Yes answers; and settings, pupils and a safe interview of the items.
pub record IsState (names : List Text) (i : Interview) (trail : List Entry) (s : Settings)
    (cases : List PupilCase) (case : Option SafeCase) : Type 0 where
  pub items : length names ≡ i.count
  pub some : 0 < length names
  pub trailed : IsTrailOf i trail
  pub settings : length s.ratios ≡ i.count
  pub pupils : ArePupils i.count cases
  pub safe : ForSome case (IsSafeCase i.count)
