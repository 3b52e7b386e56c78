use Rattle.ls_enum.proofs.Vocabulary.{◌*◌, ◌++◌, ◌+◌, ◌-◌, ◌≡◌, ◌≤◌, comes_before, left_after, length, nat_lt, page, take}
use Rattle.ls_enum.proofs.listing.page.Given as goal

-- the sets so far, with those of the page that are left, are the page; and each set was one call
abbrev pub invariant-loop-given : goal.invariant-loop-given
invariant-loop-given g l =
    let f = g.I.Interior.members l.f in
    let left = left_after l.states.cursor (g.I.Interior.members l.states.family.now) in
    record {
      family : l.states.family.now ≡ l.f;
      sets : l.sets ++ take (l.k - l._given) left ≡ (page comes_before f l.fn.after l.k).members;
      more : nat_lt (l.k - l._given) (length left) ≡ (page comes_before f l.fn.after l.k).more;
      cost : l.states.steps.now ≤ l.fn.steps + l._given * (g.I.Interior.item_count l.f + 1);
      loan : l.states.steps.ghost_name ≡ l.initial.states.steps.ghost_name;
    }
