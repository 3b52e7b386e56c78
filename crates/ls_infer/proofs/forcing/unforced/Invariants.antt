use Rattle.ls_infer.proofs.Vocabulary.{◌&&◌, ◌≡◌, ℕ, drop, forces, has, list_any, not}
use Rattle.ls_infer.proofs.forcing.unforced.Given as goal

-- of the items that are left, those that the answers that are left do not force
abbrev pub invariant-loop-place : goal.invariant-loop-place
invariant-loop-place l = (q : ℕ) → (has l.left q && not (list_any (forces (record { a = l.a; q = q })) (drop l.place l.standing))) ≡ (has l.fn.undecided q && not (list_any (forces (record { a = l.a; q = q })) l.standing))
