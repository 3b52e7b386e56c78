use Rattle.ls_write.proofs.Vocabulary.{◌*◌, ◌++◌, ◌+◌, ◌-◌, ◌≡◌, ◌≤◌, List, Option, Says, ℕ}
use Rattle.ls_write.proofs.Vocabulary.{comes_before, full, left_after, set_line}
use Rattle.std.specs.Prelude.{find}
use Rattle.std.specs.Option.{ForSome}
use Rattle.ls_set.specs.{IsWithin, Items}
use Rattle.ls_theory.specs.{comes_after}
use Rattle.ls_origins.specs.Skills.{duals}
use Rattle.ls_write.proofs.Pages.{page_bytes}
use Rattle.ls_write.proofs.structures.put_duals.Given as goal

-- what was said, with the page of those sets that are left, is the whole page; the first that is
-- left is known
abbrev pub invariant-loop-done : goal.invariant-loop-done
invariant-loop-done g l =
    let n = g.I.Interior.item_count l.f in
    let f = duals n (g.I.Interior.members l.f) in
    (given : List ℕ) × (cursor : Option Items) × record {
      said : Says (g.K.Sink.written l.fn.out) (g.K.Sink.faults l.fn.out) l.fn.room
          (g.K.Sink.written l.out) (g.K.Sink.faults l.out) l.room given;
      whole : given ++ page_bytes (set_line l.texts) (left_after cursor f) (l.count - l._done)
          ≡ page_bytes (set_line l.texts) (left_after l.fn.after f) l.count;
      next : l.next ≡ find (comes_after comes_before cursor) f;
      small : ForSome l.next (λ k. IsWithin k (full n));
      cost : l.steps ≤ l.fn.steps + (l._done + 1) * (2 * n);
    }
