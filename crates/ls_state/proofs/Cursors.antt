-- Cursors of pages, read.
use Rattle.ls_state.proofs.Vocabulary.{◌∙◌, ◌≡◌, CursorFault, Items, Option, Result, Session, Text, ℕ, after_of, ap, length, sym}

-- what was read of a cursor, by the names of the session
pub cursor : {s t : Session} {n : ℕ} {r from : Result (Option Items) CursorFault} (after : Option Text) → s ≡ t → n ≡ length s.names → r ≡ after_of n after → r ≡ from → after_of (length t.names) after ≡ from
cursor {s} {t} {n} {r} {from} after same count read is = sym (ap (λ m. after_of m after) (count ∙ ap (λ (x : Session). length x.names) same)) ∙ sym read ∙ is
