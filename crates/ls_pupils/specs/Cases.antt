-- Pupils as the program keeps them.
--     pupil_of_case c, pupils_of cs      the pupils of the definitions
--     case_name c      the name of a case
--     ArePupils n cs      pupils among n items, each with a name of its own
--     changed_to cs r      the response, and what the pupils became
use Rattle.std.specs.Prelude.{ℕ, ◌≡◌, ◌≤◌, true, List, map, length}
use Rattle.std.specs.List.{All, list_all}
use Rattle.ls_set.specs.{is_good, most_items}
use Rattle.ls_theory.specs.{compat, most_states}
use Rattle.ls_meaning.specs.{Change, most_pupils}
use Rattle.ls_cutting.specs.{Text}
use Rattle.ls_standing.specs.Starts.{start_of, IsStartOn}
use Rattle.ls_meaning.specs.Sessions.{Pupil}
use Rattle.ls_meaning.specs.declared.response.Response.{Response}
use Rattle.ls_pupils.specs.Own.{have_own_names}
use Rattle.ls_pupils.specs.declared.cases.PupilCase.{PupilCase}

abbrev pub case_name : PupilCase → Text
case_name c = c.name

abbrev pub pupil_of_case : PupilCase → Pupil
pupil_of_case c = record {
  name = c.name;
  start = start_of c.start;
  yeses = c.yes;
  settings = c.settings;
  replies = c.pupil.replies;
}

abbrev pub pupils_of : List PupilCase → List Pupil
pupils_of cases = map pupil_of_case cases

-- The states of a case are those of its start and Yes queries, which are on n items, and not too
-- many; its settings are those of n items, by which its pupil is assessed.
pub record IsCase (n : ℕ) (c : PupilCase) : Type 0 where
  pub states : c.pupil.states ≡ compat n (start_of c.start) c.yes
  pub few : length c.pupil.states ≤ most_states
  pub settings : c.pupil.settings ≡ c.settings
  pub items : length c.settings.ratios ≡ n
  pub start : IsStartOn n c.start
  pub good : list_all (is_good n) c.yes ≡ true

-- a case of as many items as its settings
abbrev pub IsOwnCase : PupilCase → Type 0
IsOwnCase c = IsCase (length c.settings.ratios) c

-- no two have the same name, and there are not too many
pub record ArePupils (n : ℕ) (cases : List PupilCase) : Type 0 where
  pub few_items : n ≤ most_items
  pub each : All (IsCase n) cases
  pub own : have_own_names case_name cases ≡ true
  pub few : length cases ≤ most_pupils

-- the response, and what the pupils became
abbrev pub changed_to : List PupilCase → Response → Change (List Pupil)
changed_to cases response = record { response = response; next = pupils_of cases }
