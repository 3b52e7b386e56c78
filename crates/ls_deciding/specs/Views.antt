-- What is shown of an interview by its base, and how many interiors it takes to decide what is shown.
use Rattle.std.specs.Prelude.{ℕ, Bool, true, false, List, None}
use Rattle.ls_set.specs.{Items}
use Rattle.ls_theory.specs.{Interview, base, base_verdict, clauses_at, projection, state_of}
use Rattle.ls_expert.specs.Steps.{question_steps}
use Rattle.ls_meaning.specs.{learned, paths_shown, state_shown}
use Rattle.ls_meaning.specs.RelationRows.{relation_shown}
use Rattle.ls_meaning.specs.declared.request.View.{View}
use Rattle.ls_meaning.specs.declared.request.View.TheVariants as view
use Rattle.ls_meaning.specs.declared.response.Response.{Response}
use Rattle.ls_meaning.specs.declared.response.Response.TheVariants as response
use Rattle.ls_meaning.specs.declared.response.Shown.TheVariants as shown

-- whether what is asked for stands on the base
abbrev pub is_based : View → Bool
is_based view.Base = true
is_based view.Surmise = true
is_based view.Learning = true
is_based (view.ProjectBase part) = true
is_based (view.StateOf inner outer) = true
is_based (view.Paths count after) = true
is_based view.SkillMap = true
is_based view.Relation = true
is_based v = false

-- what is shown then of states f of n items, where the base did not have too many sets
abbrev pub based_on : ℕ → List Items → View → Response
based_on n f view.Base = response.Shown (shown.Base (base f))
based_on n f view.Surmise = response.Shown (shown.Surmise (clauses_at n f))
based_on n f view.Learning = response.Shown (shown.Learning (base_verdict f))
based_on n f (view.ProjectBase part) =
    let g = projection n part f in response.Shown (shown.ProjectedBase (base g) (base_verdict g))
based_on n f (view.StateOf inner outer) = learned f (state_shown (state_of n f inner outer))
based_on n f (view.Paths count after) = learned f (paths_shown n count after)
based_on n f view.SkillMap = response.Shown (shown.SkillMap (base f))
based_on n f view.Relation = relation_shown n (clauses_at n f)
based_on n f v = response.Silence

-- how many interiors it takes at most to decide what is shown of an interview
abbrev pub view_steps : Interview → View → ℕ
view_steps i (view.Known r) = 1
view_steps i view.Ask = question_steps i None
view_steps i v = 0
