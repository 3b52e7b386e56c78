-- The effect of a command that looks at an interview, where a domain stands.
use Rattle.ls_views.proofs.Vocabulary.{◌<◌, ◌∙◌, ◌∷◌, ◌≡◌, Calls, Effect, Interview, List, Refused, Response, Session, Some, Text, ℕ, [], answers, ap, bytes_of, command_effect, in_domain-some, length, lines_of, reply_of, session_with, slice_get, sym, unless_unnamed, unnamed, view_effect, view_item_words, view_of, view_row}
use Rattle.ls_lines.specs.declared.command.Command.TheVariants as command
use Rattle.ls_lines.specs.declared.view.ViewCommand.{ViewCommand}
use Rattle.ls_meaning.specs.declared.response.Refusal.TheVariants.{Unnamed}

first_told : (s : Session) (places : List ℕ) (effect : Effect) (place : ℕ) → slice_get places 0 ≡ Some place → unless_unnamed s places effect ≡ answers s (Refused (Unnamed place))
first_told s [] effect place e = absurd (cc e)
first_told s (p ∷ places) effect place e = let same : p ≡ place = cc e in ap (λ n. answers s (Refused (Unnamed n))) same

module _ (s : Session) (calls : Calls) (c : ViewCommand) (some : 0 < length s.names) where
  -- where each word that must name an item does, the command shows its row
  pub shows-row : unnamed s.names (view_item_words c) ≡ [] → command_effect s calls (command.View c) ≡ answers s (view_row s.interview (view_of s.names c))
  unfolding command_effect
  shows-row named =
      in_domain-some s (view_effect s c) some
      ∙ ap (λ places. unless_unnamed s places (answers s (view_row s.interview (view_of s.names c)))) named

  -- or else the first place at fault is told
  pub tells-place : (place : ℕ) → slice_get (unnamed s.names (view_item_words c)) 0 ≡ Some place → command_effect s calls (command.View c) ≡ answers s (Refused (Unnamed place))
  unfolding command_effect
  tells-place place e =
      in_domain-some s (view_effect s c) some
      ∙ first_told s (unnamed s.names (view_item_words c)) (answers s (view_row s.interview (view_of s.names c))) place e

-- the bytes of a response are the reply to the command that it answers
pub reply_is : {names : List Text} {i j : Interview} {r : Response} (s : Session) (calls : Calls) (c : ViewCommand) → j ≡ i
    → command_effect (session_with s names j) calls (command.View c) ≡ answers (session_with s names j) r
    → bytes_of (lines_of (session_with s names j) r) ≡ reply_of (command_effect (session_with s names i) calls (command.View c))
reply_is {names} {i} {j} {r} s calls c same e =
    ap reply_of (sym e) ∙ ap (λ (k : Interview). reply_of (command_effect (session_with s names k) calls (command.View c))) same
