-- How many interiors the reply to a look at an interview takes at most.
use Rattle.ls_views.proofs.Vocabulary.{◌≡◌, ◌otherwise◌, Interview, Items, List, Option, Response, Text, ap, arith, base_verdict, based_row, compatible_sets, past_refusal, refuse_fault, view_of, view_row, ℕ, []}
use Rattle.std.proofs.Common.{◌*◌, ◌+◌, ◌∷◌, ◌≤◌, Err, None, Ok, Result, Some, not, refl, true}
use Rattle.std.specs.Option.{option_map_or}
use Rattle.ls_set.specs.{is_among, is_good}
use Rattle.ls_set.specs.declared.cursor.CursorFault.{CursorFault}
use Rattle.ls_origins.specs.declared.relation_fault.RelationFault.{RelationFault}
use Rattle.ls_theory.specs.{fringes, is_order, known, peak_of}
use Rattle.ls_theory.specs.declared.answer_fault.AnswerFault.TheVariants.{BadQuery}
use Rattle.ls_lines.specs.declared.view.ViewCommand.{ViewCommand}
use Rattle.ls_lines.specs.declared.view.ViewCommand.TheVariants as command
use Rattle.ls_meaning.specs.{learned, project_row, refuse, state_shown, states_row}
use Rattle.ls_meaning.specs.Rows.{learning_refusals}
use Rattle.ls_meaning.specs.RelationRows.{covers_unless}
use Rattle.ls_meaning.specs.declared.request.View.{View}
use Rattle.ls_meaning.specs.declared.request.View.TheVariants as view
use Rattle.ls_meaning.specs.declared.response.Refusal.{Refusal}
use Rattle.ls_meaning.specs.declared.response.Refusal.TheVariants as refusal_of
use Rattle.ls_meaning.specs.declared.response.Response.TheVariants.{Shown}
use Rattle.ls_meaning.specs.declared.response.Shown.TheVariants as shown
use Rattle.ls_write.specs.Showing.{response_steps}
use Rattle.ls_deciding.specs.Views.{view_steps}
use Rattle.ls_views.specs.Views.{command_steps}

module _ (n : ℕ) where
  otherwise-steps : (refusals : List Refusal) (r : Response) → response_steps r n ≡ 0 → response_steps (refusals otherwise r) n ≡ 0
  otherwise-steps [] r e = e
  otherwise-steps (refusal ∷ refusals) r e = refl

  based-steps : (i : Interview) (r : Response) → response_steps r n ≡ 0 → response_steps (based_row i r) n ≡ 0
  based-steps i r e = otherwise-steps (refuse_fault past_refusal (peak_of i)) r e

  learned-steps : (f : List Items) (r : Response) → response_steps r n ≡ 0 → response_steps (learned f r) n ≡ 0
  learned-steps f r e = otherwise-steps (learning_refusals (base_verdict f)) r e

  state-steps : (k : Option Items) → response_steps (state_shown k) n ≡ 0
  state-steps None = refl
  state-steps (Some k) = refl

  cover-steps : (m : ℕ) (below : List Items) (fault : Option RelationFault) → response_steps (covers_unless m below fault) n ≡ 0
  cover-steps m below None = refl
  cover-steps m below (Some fault) = refl

  states-steps : (count : ℕ) (after : Result (Option Items) CursorFault) → response_steps (states_row count after) n ≤ (count + 1) * (n + 1)
  states-steps count (Ok after) = omega arith
  states-steps count (Err fault) = omega arith

  project-steps : (part : Items) (count : ℕ) (after : Result (Option Items) CursorFault) → response_steps (project_row part count after) n ≤ (count + 1) * (n + 1)
  project-steps part count (Ok after) = omega arith
  project-steps part count (Err fault) = omega arith

  none : {x : ℕ} → x ≡ 0 → x ≤ 0
  none e = omega (arith, e)

  -- of saying what a command shows
  abbrev row_steps : View → ℕ
  row_steps (view.States count after) = (count + 1) * (n + 1)
  row_steps (view.Project part count after) = (count + 1) * (n + 1)
  row_steps v = 0

  row-cost : (i : Interview) (v : View) → response_steps (view_row i v) n ≤ row_steps v
  row-cost i (view.Known r) = none (otherwise-steps (refuse (refusal_of.Answer BadQuery) (not (is_good i.count r))) (Shown (shown.Known (known i r))) refl)
  row-cost i view.Ask = omega arith
  row-cost i (view.States count after) = states-steps count after
  row-cost i view.Base = none (based-steps i _ refl)
  row-cost i view.Surmise = none (based-steps i _ refl)
  row-cost i view.Learning = none (based-steps i _ refl)
  row-cost i (view.Project part count after) = project-steps part count after
  row-cost i (view.ProjectBase part) = none (based-steps i _ refl)
  row-cost i (view.Fringes k) = none (otherwise-steps (refuse refusal_of.NotState (not (is_among (compatible_sets i) k))) (Shown (shown.Fringes (fringes i.count (compatible_sets i) k))) refl)
  row-cost i (view.StateOf inner outer) = none (based-steps i _ (learned-steps (compatible_sets i) _ (state-steps _)))
  row-cost i (view.Paths count after) = none (based-steps i _ (learned-steps (compatible_sets i) _ (otherwise-steps (refuse refusal_of.NotOrder (not (option_map_or (is_order i.count) after true))) (Shown (shown.Paths count after)) refl)))
  row-cost i view.SkillMap = none (based-steps i _ refl)
  row-cost i view.Relation = none (based-steps i _ (cover-steps _ _ _))

  command-cost : (i : Interview) → n ≡ i.count → (names : List Text) (c : ViewCommand) → view_steps i (view_of names c) + row_steps (view_of names c) ≤ command_steps i c
  command-cost i e names (command.Known ws w) = omega arith
  command-cost i e names command.Ask = omega arith
  command-cost i e names (command.States count after) = omega (arith, ap (λ m. (count + 1) * (m + 1)) e)
  command-cost i e names command.Base = omega arith
  command-cost i e names command.Surmise = omega arith
  command-cost i e names command.Learning = omega arith
  command-cost i e names (command.Project count after ws) = omega (arith, ap (λ m. (count + 1) * (m + 1)) e)
  command-cost i e names (command.ProjectBase ws) = omega arith
  command-cost i e names (command.Fringes ws) = omega arith
  command-cost i e names (command.StateOf inner outer) = omega arith
  command-cost i e names (command.Paths count after) = omega arith
  command-cost i e names command.SkillMap = omega arith
  command-cost i e names command.Relation = omega arith

  -- of deciding and saying it
  pub view-cost : (i : Interview) → n ≡ i.count → (names : List Text) (c : ViewCommand) → view_steps i (view_of names c) + response_steps (view_row i (view_of names c)) n ≤ command_steps i c
  view-cost i e names c = omega (arith, row-cost i (view_of names c), command-cost i e names c)
