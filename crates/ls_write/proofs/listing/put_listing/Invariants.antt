use Rattle.ls_write.proofs.Vocabulary.{◌*◌, ◌++◌, ◌+◌, ◌-◌, ◌≡◌, ◌≤◌, List, Says, ℕ, left_after, set_line}
use Rattle.ls_write.proofs.Pages.{page_bytes}
use Rattle.ls_write.proofs.listing.put_listing.Given as goal

-- what was said, with the page of those sets that are left, is the whole page
abbrev pub invariant-loop-done : goal.invariant-loop-done
invariant-loop-done g l =
    let f = g.I.Interior.members l.f in
    let now = g.I.Interior.members l.states.family.now in
    (given : List ℕ) × record {
      said : Says (g.K.Sink.written l.fn.out) (g.K.Sink.faults l.fn.out) l.fn.room (g.K.Sink.written l.out) (g.K.Sink.faults l.out) l.room given;
      whole : given ++ page_bytes (set_line l.texts) (left_after l.states.cursor now) (l.count - l._done) ≡ page_bytes (set_line l.texts) (left_after l.fn.after f) l.count;
      family : l.states.family.now ≡ l.f;
      cost : l.states.steps.now ≤ l.fn.steps + l._done * (g.I.Interior.item_count l.f + 1);
      loan : l.states.steps.ghost_name ≡ l.initial.states.steps.ghost_name;
    }
