-- A reply begins with `no ` exactly where the response is a refusal.
use Rattle.ls_meaning.proofs.Vocabulary.{◌∷◌, ◌≡◌, Accepted, Agreed, Done, List, Refused, Session, Shown, Silence, Text, [], bytes_of, false, is_refusal, is_refused, line_of, refl}
use Rattle.ls_meaning.specs.Heads as head
use Rattle.ls_meaning.specs.Heads.{Head, head_word}
use Rattle.ls_meaning.specs.Lines.{Line, line_words, lines_of, shown_lines}
use Rattle.ls_meaning.specs.declared.response.Response.{Response}
use Rattle.std.specs.Prelude.{map}

-- no line of what is shown begins with `no`
headed : (h : Head) (ws : List Text) (ls : List (List Text)) → is_refusal (bytes_of ((head_word h ∷ ws) ∷ ls)) ≡ false
unfolding bytes_of line_of
headed head.Agree [] ls = refl
headed head.Agree (w ∷ ws) ls = refl
headed head.Answer [] ls = refl
headed head.Answer (w ∷ ws) ls = refl
headed head.Ask [] ls = refl
headed head.Ask (w ∷ ws) ls = refl
headed head.Base [] ls = refl
headed head.Base (w ∷ ws) ls = refl
headed head.Class [] ls = refl
headed head.Class (w ∷ ws) ls = refl
headed head.Cover [] ls = refl
headed head.Cover (w ∷ ws) ls = refl
headed head.Fringes [] ls = refl
headed head.Fringes (w ∷ ws) ls = refl
headed head.Known [] ls = refl
headed head.Known (w ∷ ws) ls = refl
headed head.Learning [] ls = refl
headed head.Learning (w ∷ ws) ls = refl
headed head.More [] ls = refl
headed head.More (w ∷ ws) ls = refl
headed head.Over [] ls = refl
headed head.Over (w ∷ ws) ls = refl
headed head.Path [] ls = refl
headed head.Path (w ∷ ws) ls = refl
headed head.Question [] ls = refl
headed head.Question (w ∷ ws) ls = refl
headed head.Relation [] ls = refl
headed head.Relation (w ∷ ws) ls = refl
headed head.Report [] ls = refl
headed head.Report (w ∷ ws) ls = refl
headed head.Result [] ls = refl
headed head.Result (w ∷ ws) ls = refl
headed head.Safe [] ls = refl
headed head.Safe (w ∷ ws) ls = refl
headed head.Set [] ls = refl
headed head.Set (w ∷ ws) ls = refl
headed head.Settled [] ls = refl
headed head.Settled (w ∷ ws) ls = refl
headed head.Skills [] ls = refl
headed head.Skills (w ∷ ws) ls = refl
headed head.State [] ls = refl
headed head.State (w ∷ ws) ls = refl
headed head.Surmise [] ls = refl
headed head.Surmise (w ∷ ws) ls = refl
headed head.Test [] ls = refl
headed head.Test (w ∷ ws) ls = refl

shown_is_no_refusal : (ls : List Line) → is_refusal (bytes_of (map line_words ls)) ≡ false
unfolding bytes_of
shown_is_no_refusal [] = refl
shown_is_no_refusal (l ∷ ls) = headed l.head l.rest (map line_words ls)

pub is_refusal-lines_of : (s : Session) (r : Response) → is_refusal (bytes_of (lines_of s r)) ≡ is_refused r
unfolding bytes_of line_of
is_refusal-lines_of s Silence = refl
is_refusal-lines_of s (Refused refusal) = refl
is_refusal-lines_of s (Done number) = refl
is_refusal-lines_of s Agreed = refl
is_refusal-lines_of s (Accepted number applied pending) = refl
is_refusal-lines_of s (Shown what) = shown_is_no_refusal (shown_lines s.names s.interview what)
