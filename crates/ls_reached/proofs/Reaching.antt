-- Each session that lines reach is whole, where it has a domain.
use Rattle.ls_reached.proofs.Vocabulary.{◌∷◌, ◌≡◌, Called, IsKept, IsReached, List, Marked, Session, World, [], begun_over, calls_of, line_effect, refl, session_after, started, subst, world_after, world_next}
use Rattle.ls_edge.specs.Files.{Folder}
use Rattle.ls_reached.proofs.Commands.{line-kept}

after-kept : (s : Session) (ls : List Called) → IsKept s → IsKept (session_after s ls)
unfolding session_after
after-kept s [] kept = kept
after-kept s (l ∷ ls) kept = after-kept (line_effect s l.calls l.line).session ls (line-kept s l.calls l.line kept)

pub reached-kept : (s : Session) → IsReached s → IsKept s
reached-kept s h = subst IsKept h.1 (after-kept (started []) h.0 (λ some. absurd (cc some)))

-- ---- scripts

-- what the calls of each line give
called : World → List Marked → List Called
called w [] = []
called w (l ∷ ls) = record { line = l.line; calls = calls_of w.folder l.failed } ∷ called (world_next w l) ls

called-reach : (w : World) (ls : List Marked) → session_after w.session (called w ls) ≡ (world_after w ls).session
unfolding called session_after world_after
called-reach w [] = refl
called-reach w (l ∷ ls) = called-reach (world_next w l) ls

pub script-reaches : (folder : Folder) (ls : List Marked) → IsReached (world_after (begun_over folder) ls).session
script-reaches folder ls = (called (begun_over folder) ls, called-reach (begun_over folder) ls)
