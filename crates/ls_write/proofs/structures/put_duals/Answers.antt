use Rattle.ls_write.proofs.Vocabulary.{◌*◌, ◌++◌, ◌+◌, ◌-◌, ◌∙◌, ◌≡◌, Some, [], ap, append_assoc}
use Rattle.ls_write.proofs.Vocabulary.{arith, full, left_after, line_bytes, more_steps, set_line}
use Rattle.ls_write.proofs.Vocabulary.{subst, sym}
use Rattle.std.specs.Prelude.{find}
use Rattle.ls_lists.proofs.Finds.{find-any}
use Rattle.ls_set.specs.{IsWithin, comes_before}
use Rattle.ls_theory.specs.{comes_after}
use Rattle.ls_enum.proofs.Left.{left-first, left-none}
use Rattle.ls_origins.specs.Skills.{duals}
use Rattle.ls_skill.proofs.Dual.{first-dual}
use Rattle.ls_skill.proofs.Skilled.{duals-in_order}
use Rattle.ls_room.proofs.Saying.{says_as, says_nothing, says_then, says_void}
use Rattle.ls_write.proofs.Pages.{found-left, page_bytes, page-next, page-ended, page-full}
use Rattle.ls_write.proofs.structures.put_duals.Goals as goal
use Rattle.ls_write.proofs.structures.put_duals.Goals.{in-Some, in-None}

pub loop-done-init : goal.loop-done-init
loop-done-init g c =
    let n = g.I.Interior.item_count c.args.f.now in
    let members = g.I.Interior.members c.args.f.now in
    let f = duals n members in
    let page = page_bytes (set_line c.args.texts.now) in
    let none : c.args.count - 0 ≡ c.args.count = omega arith in (
      [],
      c.args.after,
      elim c.match-after.branch [
        | in-Some w ↦ rw (w.steps-is, w.next-is) record {
          said = says_nothing _ _ _;
          whole = ap (page (left_after c.args.after f)) none;
          next =
              w.next_dual-next.ensures.next ∙ ap (λ o. find (comes_after comes_before o) f)
              (sym w.in-Some.is);
          small = w.next_dual-next.ensures.small;
          cost = omega (arith, w.next_dual-next.ensures.cost);
        }
        | in-None w ↦ rw (w.steps-is, w.next-is) record {
          said = says_nothing _ _ _;
          whole = ap (page (left_after c.args.after f)) none;
          next = ap Some (w.full.ensures ∙ ap full w.items.ensures.count)
              ∙ sym
              (ap (λ o. find (comes_after comes_before o) f) w.in-None.is ∙ find-any f ∙
              first-dual n members (g.met.I.Interior.is_family c.args.f.now).holds_empty);
          small = λ k e. let same : full n ≡ k =
              cc (w.full.ensures, w.items.ensures.count, e) in subst (λ t. IsWithin t (full n)) same
              (λ i h. h);
          cost = omega arith;
        }
      ],
    )

pub loop-done-preserved : goal.loop-done-preserved
loop-done-preserved g c =
    let n = g.I.Interior.item_count c.args.f.now in
    let members = g.I.Interior.members c.args.f.now in
    let f = duals n members in
    let text = set_line c.args.texts.now in
    let given = c.loop-done.invariant.0 in
    let cursor = c.loop-done.invariant.1 in
    let before = c.loop-done.invariant.2 in
    let set = c.in-Some-next.set in
    let rest = left_after (Some set) f in
    let left = left_after cursor f in
    let count = c.args.count in
    let done = c.loop-done._done in
    let whole = page_bytes text (left_after c.args.after f) count in (
      given ++ line_bytes (text set),
      Some set,
      record {
        said = says_then before.said c.put_set_line.ensures;
        whole =
            append_assoc given (line_bytes (text set)) (page_bytes text rest (count - (done + 1)))
            ∙ page-next text given whole left count done before.whole set rest
            (left-first cursor f set (duals-in_order n members)
            (sym before.next ∙ c.in-Some-next.is)) c.loop-done-test.true;
        next = c.next_dual-next-in-loop-done.ensures.next;
        small = c.next_dual-next-in-loop-done.ensures.small;
        cost =
            more_steps _ _ _ (done + 1) (2 * n) before.cost
            c.next_dual-next-in-loop-done.ensures.cost;
      },
    )

pub returns-then-has_failed-clause-says : goal.returns-then-has_failed-clause-says
returns-then-has_failed-clause-says g c =
    let f = duals (g.I.Interior.item_count c.args.f.now) (g.I.Interior.members c.args.f.now) in
    let before = c.loop-done.invariant.2 in
    let left = left_after c.loop-done.invariant.1 f in
    says_as
    before.whole
    (says_then
    before.said
    (says_void (page_bytes (set_line c.args.texts.now) left (c.args.count - c.loop-done._done))
    (sym c.has_failed.ensures ∙ c.if-has_failed.true)))

pub returns-in_default-clause-says : goal.returns-in_default-clause-says
returns-in_default-clause-says g c =
    let f = duals (g.I.Interior.item_count c.args.f.now) (g.I.Interior.members c.args.f.now) in
    let text = set_line c.args.texts.now in
    let cursor = c.loop-done.invariant.1 in
    let before = c.loop-done.invariant.2 in
    let whole = page_bytes text (left_after c.args.after f) c.args.count in
    says_as
    (page-ended text c.loop-done.invariant.0 whole (left_after cursor f) c.args.count
    c.loop-done._done before.whole (left-none cursor f (sym before.next ∙ c.in_default.is)))
    (says_then before.said c.put_more.ensures)

pub returns-clause-says : goal.returns-clause-says
returns-clause-says g c =
    let n = g.I.Interior.item_count c.args.f.now in
    let members = g.I.Interior.members c.args.f.now in
    let f = duals n members in
    let text = set_line c.args.texts.now in
    let cursor = c.loop-done.invariant.1 in
    let before = c.loop-done.invariant.2 in
    let whole = page_bytes text (left_after c.args.after f) c.args.count in
    let more =
    c.is_some.ensures ∙ found-left cursor f c.loop-done.next (duals-in_order n members)
    before.next in
    says_as
    (page-full text c.loop-done.invariant.0 whole (left_after cursor f) c.args.count
    c.loop-done._done before.whole c.is_some.result more c.loop-done-test.false)
    (says_then before.said c.put_more-2.ensures)
