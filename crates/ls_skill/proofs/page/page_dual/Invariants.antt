use Rattle.std.proofs.Common.{◌≡◌, ◌+◌, ◌*◌, ◌-◌, ◌≤◌, ◌++◌, length, nat_lt, take}
use Rattle.std.specs.Option.{ForSome}
use Rattle.ls_set.specs.ItemSet.{full, comes_before, IsWithin}
use Rattle.ls_theory.specs.Pages.{page}
use Rattle.ls_enum.specs.Listings.{left_after}
use Rattle.ls_origins.specs.Skills.{duals}
use Rattle.ls_skill.proofs.page.page_dual.Given as goal

-- the sets so far, with those of the page that are left, are the page; and each set was one call
abbrev pub invariant-loop-given : goal.invariant-loop-given
invariant-loop-given g l =
    let n = g.I.Interior.item_count l.f in
    let f = duals n (g.I.Interior.members l.f) in
    let left = left_after l.cursor f in
    record {
      small : ForSome l.cursor (λ w. IsWithin w (full n));
      sets : l.sets ++ take (l.k - l._given) left ≡ (page comes_before f l.fn.after l.k).members;
      more : nat_lt (l.k - l._given) (length left) ≡ (page comes_before f l.fn.after l.k).more;
      cost : l.steps ≤ l.fn.steps + l._given * (2 * n);
    }
