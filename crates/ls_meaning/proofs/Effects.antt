-- What commands do, by whether a domain stands.
use Rattle.ls_meaning.proofs.Vocabulary.{◌++◌, ◌<◌, ◌∙◌, ◌∷◌, ◌≡◌, ◌≤◌, Bool, Calls, Change, DomainStands, Effect, Fetched, List, LongLine, NoCommand, None, Option, Refused, Session, Some, Text, ℕ, [], answers, ap, arith, command_effect, command_of, cond, false, fault_place, has_domain, le-ltb, length, line_effect, longest_line, lt-ltb, names_of_table, names_of_words, ne_eqb, not, refl, refuse, sym, true, words, words_effect}
use Rattle.ls_lines.specs.{is_long}
use Rattle.ls_lines.specs.declared.command.Command.{Command}
use Rattle.ls_meaning.specs.Rows.{items_row, load_items_row, started_by, file_refusals, bytes_fetched}
use Rattle.ls_meaning.specs.Replies.{in_domain, unless_unnamed}
use Rattle.ls_meaning.specs.declared.response.Refusal.TheVariants.{Unnamed}
use Rattle.ls_meaning.specs.declared.response.Response.{Response}

-- a domain stands where there are names
pub has_domain-some : (s : Session) → 0 < length s.names → has_domain s ≡ true
has_domain-some s some = ap not (ne_eqb (length s.names) 0 (λ e. omega arith))

-- ---- where a domain stands none begins, and where none stands one may

abbrev pub stands : Session → Change Session
stands s = record { response = Refused DomainStands; next = s }

pub items_row-begins : (s : Session) (names : List Text) → has_domain s ≡ false → items_row s names ≡ started_by s [] (names_of_words names)
items_row-begins s names e = ap (λ b. started_by s (refuse DomainStands b) (names_of_words names)) e

pub load_items_row-stands : (s : Session) (given : Fetched) → has_domain s ≡ true → load_items_row s given ≡ stands s
load_items_row-stands s given e = ap (λ b. started_by s (refuse DomainStands b ++ file_refusals given) (names_of_table (bytes_fetched given))) e

pub load_items_row-begins : (s : Session) (given : Fetched) → has_domain s ≡ false → load_items_row s given ≡ started_by s (file_refusals given) (names_of_table (bytes_fetched given))
load_items_row-begins s given e = ap (λ b. started_by s (refuse DomainStands b ++ file_refusals given) (names_of_table (bytes_fetched given))) e

-- ---- commands and lines

pub in_domain-some : (s : Session) (e : Effect) → 0 < length s.names → in_domain s e ≡ e
in_domain-some s e some = ap (λ b. cond b e (answers s (Refused (Unnamed 0)))) (has_domain-some s some)

module _ (s : Session) (calls : Calls) (line : List ℕ) where
  abbrev pub long : Effect
  long = answers s (Refused (LongLine (length line)))

  abbrev short : Effect
  short = words_effect s calls (words line) (command_of (words line))

  pub line_effect-long : longest_line < length line → line_effect s calls line ≡ long
  unfolding line_effect
  line_effect-long h = ap (λ b. cond b long short) (lt-ltb longest_line (length line) h)

  pub line_effect-command : (c : Command) → length line ≤ longest_line → command_of (words line) ≡ Some c → line_effect s calls line ≡ command_effect s calls c
  unfolding line_effect
  line_effect-command c h e = ap (λ b. cond b long short) (le-ltb longest_line (length line) h) ∙ ap (words_effect s calls (words line)) e

  pub line_effect-fault : (place : ℕ) → length line ≤ longest_line → command_of (words line) ≡ None → place ≡ fault_place (words line) → line_effect s calls line ≡ answers s (Refused (NoCommand place))
  unfolding line_effect
  line_effect-fault place h e f =
      ap (λ b. cond b long short) (le-ltb longest_line (length line) h) ∙ ap (words_effect s calls (words line)) e
      ∙ ap (λ (n : ℕ). answers s (Refused (NoCommand n))) (sym f)

-- ---- what answers have, and what stands in an effect's place has

module _ (s : Session) (P : Effect → Type 0) (answered : (r : Response) → P (answers s r)) where
  pub domain-has : (e : Effect) → P e → P (in_domain s e)
  domain-has e h = go (has_domain s)
    where
      go : (b : Bool) → P (cond b e (answers s (Refused (Unnamed 0))))
      go true = h
      go false = answered _

  pub named-has : (places : List ℕ) (e : Effect) → P e → P (unless_unnamed s places e)
  named-has [] e h = h
  named-has (place ∷ places) e h = answered _

  -- a line has what its command has
  pub line-has : (calls : Calls) (line : List ℕ)
      → ((c : Command) → command_of (words line) ≡ Some c → P (command_effect s calls c))
      → P (line_effect s calls line)
  unfolding line_effect
  line-has calls line h = go (is_long line)
    where
      of_words : (o : Option Command) → command_of (words line) ≡ o
          → P (words_effect s calls (words line) o)
      of_words None e = answered _
      of_words (Some c) e = h c e

      go : (b : Bool) → P (cond b (answers s (Refused (LongLine (length line))))
          (words_effect s calls (words line) (command_of (words line))))
      go true = answered _
      go false = of_words (command_of (words line)) refl
