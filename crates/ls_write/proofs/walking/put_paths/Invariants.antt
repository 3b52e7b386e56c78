use Rattle.ls_write.proofs.Vocabulary.{◌++◌, ◌-◌, ◌≡◌, IsTextOf, List, Says, ℕ, path_line, paths_after, paths_left}
use Rattle.ls_write.proofs.Pages.{page_bytes}
use Rattle.ls_write.proofs.walking.put_paths.Given as goal

-- what was said, with the page of those paths that are left, is the whole page
abbrev pub invariant-loop-done : goal.invariant-loop-done
invariant-loop-done g l =
    let n = g.F.Inside.item_count l.f in
    let f = g.F.Inside.members l.f in
    let text = path_line l.texts in
    (given : List ℕ) × record {
      said : Says (g.K.Sink.written l.fn.out) (g.K.Sink.faults l.fn.out) l.fn.room (g.K.Sink.written l.out) (g.K.Sink.faults l.out) l.room given;
      shared : IsTextOf l.texts l.shared;
      family : l.walk.family.now ≡ l.f;
      whole : given ++ page_bytes text (paths_left n f l.walk.has_path l.walk.order) (l.count - l._done) ≡ page_bytes text (paths_after n f l.fn.after) l.count;
    }
