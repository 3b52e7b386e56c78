-- The count of a command that is read is at most 65536.
use Rattle.ls_lines.proofs.Vocabulary.{◌∷◌, ◌≡◌, ◌≤◌, Command, Form, List, None, Some, Text, ℕ, [], arith, command, command_of, cons_option, count_of, cut, filter_map, forms, most_counted, none-some, option_map, parts, same_Some, slice_get, subst, sym}
use Rattle.ls_lines.specs.declared.form.Form.TheVariants as form
use Rattle.ls_lines.specs.declared.opening.OpeningForm.TheVariants as opening
use Rattle.ls_lines.specs.declared.file.FileForm.TheVariants as file
use Rattle.ls_lines.specs.declared.edit.EditForm.TheVariants as edit
use Rattle.ls_lines.specs.declared.view.ViewForm.TheVariants as view
use Rattle.ls_lines.specs.declared.safe.SafeForm.TheVariants as safe
use Rattle.ls_lines.specs.declared.setting.SettingForm.TheVariants as setting
use Rattle.ls_lines.specs.declared.pupil.PupilForm.TheVariants as pupil
use Rattle.ls_cutting.proofs.Numbers.{number-within}

-- the command that is read is the command of some form
made : (ws : List Text) (fs : List Form) (c : Command) → slice_get (filter_map (λ f. option_map (command f) (cut (parts f) ws)) fs) 0 ≡ Some c →
    (f : Form) × (given : List (List Text)) × (command f given ≡ c)
made ws [] c h = absurd (none-some c h)
made ws (f ∷ fs) c h =
    elim (cut (parts f) ws) as (λ o. slice_get (cons_option (option_map (command f) o) (filter_map (λ g. option_map (command g) (cut (parts g) ws)) fs)) 0 ≡ Some c → (f : Form) × (given : List (List Text)) × (command f given ≡ c)) [
      | None ↦ λ e. made ws fs c e
      | Some given ↦ λ e. (f, given, same_Some (command f given) c e)
    ] h

pub made_by_form : (ws : List Text) (c : Command) → command_of ws ≡ Some c → (f : Form) × (given : List (List Text)) × (command f given ≡ c)
unfolding command_of
made_by_form ws c h = made ws forms c h

form_count-within : (f : Form) (given : List (List Text)) (n : ℕ) → count_of (command f given) ≡ Some n → n ≤ most_counted
unfolding command
form_count-within form.Nothing given n h = absurd (none-some n h)
form_count-within (form.Opening opening.Items) given n h = absurd (none-some n h)
form_count-within (form.File file.Test) given n h = absurd (none-some n h)
form_count-within (form.Edit edit.Blocks) given n h = absurd (none-some n h)
form_count-within (form.View view.Base) given n h = absurd (none-some n h)
form_count-within (form.Safe safe.Open) given n h = absurd (none-some n h)
form_count-within (form.Setting setting.OddsAll) given n h = absurd (none-some n h)
form_count-within (form.Pupil pupil.Pupil) given n h = absurd (none-some n h)
form_count-within f given n h = grind (arith, number-within)

pub count-within : (ws : List Text) (c : Command) (n : ℕ) → command_of ws ≡ Some c → count_of c ≡ Some n → n ≤ most_counted
count-within ws c n h k =
    let by = made_by_form ws c h in
    form_count-within by.0 by.1 n (subst (λ d. count_of d ≡ Some n) (sym by.2) k)
