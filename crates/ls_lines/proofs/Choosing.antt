-- The command is that of the first form that has the line.
use Rattle.ls_lines.proofs.Vocabulary.{◌∙◌, ◌∷◌, ◌≡◌, Bool, Command, Form, List, None, Some, Text, ℕ, [], ap, arith, command, command_of, cond, cons_option, cut, false, filter_map, find, forms, is_some, length, none-some, option_map, parts, refl, same_Some, slice_get, suc, sym, true, zero}
use Rattle.ls_lines.specs.declared.command.Command.TheVariants as commands

-- whether the form has the words as a line
abbrev pub has_line : List Text → Form → Bool
has_line ws f = is_some (cut (parts f) ws)

-- the commands that the words are by the forms
abbrev pub readings : List Form → List Text → List Command
readings fs ws = filter_map (λ f. option_map (command f) (cut (parts f) ws)) fs

first_found : (fs : List Form) (ws : List Text) (f : Form) (given : List (List Text)) → find (has_line ws) fs ≡ Some f → cut (parts f) ws ≡ Some given → slice_get (readings fs ws) 0 ≡ Some (command f given)
first_found [] ws f given h k = absurd (none-some f h)
first_found (g ∷ fs) ws f given h k =
    elim (cut (parts g) ws) as (λ o. cut (parts g) ws ≡ o → cond (is_some o) (Some g) (find (has_line ws) fs) ≡ Some f → slice_get (cons_option (option_map (command g) o) (readings fs ws)) 0 ≡ Some (command f given)) [
      | None ↦ λ e here. first_found fs ws f given here k
      | Some lists ↦ λ e here.
          let same = same_Some g f here in
          let given_same = same_Some lists given (sym e ∙ ap (λ d. cut (parts d) ws) same ∙ k) in
          rw (same, given_same) refl
    ] refl h

pub command_of-form : (ws : List Text) (f : Form) (given : List (List Text)) → find (has_line ws) forms ≡ Some f → cut (parts f) ws ≡ Some given → command_of ws ≡ Some (command f given)
unfolding command_of
command_of-form ws f given h k = first_found forms ws f given h k

-- a form that has the line, and none but which has it, is found
pub only_found : (fs : List Form) (ws : List Text) (i : ℕ) (f : Form) → slice_get fs i ≡ Some f → has_line ws f ≡ true → ((g : Form) → has_line ws g ≡ true → g ≡ f) → find (has_line ws) fs ≡ Some f
only_found [] ws i f at h only = absurd (none-some f at)
only_found (g ∷ fs) ws zero f at h only = let same = same_Some g f at in rw (same, h) refl
only_found (g ∷ fs) ws (suc i) f at h only =
    elim (has_line ws g) as (λ t. has_line ws g ≡ t → cond t (Some g) (find (has_line ws) fs) ≡ Some f) [
      | true ↦ λ e. ap Some (only g e)
      | false ↦ λ e. only_found fs ws i f at h only
    ] refl

-- no words are the command that does nothing
pub no_words : (ws : List Text) → length ws ≡ 0 → Some commands.Nothing ≡ command_of ws
unfolding command_of forms parts command cut
no_words [] e = refl
no_words (w ∷ ws) e = absurd (omega arith)
