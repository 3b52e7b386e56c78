use Rattle.ls_write.proofs.Vocabulary.{◌++◌, ◌+◌, ◌-◌, ◌∙◌, ◌∷◌, ◌≡◌, IsTextOf, List, MatchOption, ℕ, [], ap, append_assoc, ap₂, arith, drop, filter, is_lex_before, line_bytes, path_line, paths, paths_after, paths_left, rules, subst, sym}
use Rattle.ls_room.proofs.Saying.{says_as, says_nothing, says_then, says_void}
use Rattle.ls_write.proofs.Pages.{page_bytes, page-next, page-ended, page-full, some-left}
use Rattle.ls_write.proofs.walking.put_paths.Goals as goal

pub loop-done-init : goal.loop-done-init
loop-done-init g c = (
  [],
  record {
    said = says_nothing _ _ _;
    shared = let e : IsTextOf c.args.texts.now c.new-shared.result = search rules in e;
    family = c.walk_after-walk.ensures.family;
    whole = ap₂ (page_bytes (path_line c.args.texts.now)) c.walk_after-walk.ensures.left (let e : c.args.count - 0 ≡ c.args.count = omega arith in e);
  },
)

pub loop-done-preserved : goal.loop-done-preserved
loop-done-preserved g c =
    let walk = c.loop-done.walk in
    let n = g.F.Inside.item_count in
    let f = g.F.Inside.members in
    let text = path_line c.args.texts.now in
    let before = c.loop-done.invariant.1 in
    let given = c.loop-done.invariant.0 in
    let path = c.in-Some.path.now in
    let family = c.args.f.now in
    let rest = filter (is_lex_before path) (paths (n family) (f family)) in
    let count = c.args.count in
    let done = c.loop-done._done in
    let next = c.advance.new.self in
    let at : paths_left (n family) (f family) walk.has_path walk.order ≡ path ∷ rest =
    subst (λ x. paths_left (n x) (f x) walk.has_path walk.order ≡ path ∷ filter (is_lex_before path) (paths (n x) (f x))) before.family c.in-Some.ensures.left in
    let left : paths_left (n family) (f family) next.has_path next.order ≡ rest =
    subst (λ x. paths_left (n x) (f x) next.has_path next.order ≡ drop 1 (paths_left (n x) (f x) walk.has_path walk.order)) before.family c.advance.ensures.left ∙ ap (λ (l : List (List ℕ)). drop 1 l) at in (
      given ++ line_bytes (text path),
      record {
        said = says_then before.said c.put_path.ensures.says;
        shared = c.put_path.ensures.shared;
        family = c.advance.ensures.family ∙ before.family;
        whole = ap (λ (l : List (List ℕ)). (given ++ line_bytes (text path)) ++ page_bytes text l (count - (done + 1))) left
            ∙ append_assoc given (line_bytes (text path)) (page_bytes text rest (count - (done + 1)))
            ∙ page-next text given (page_bytes text (paths_after (n family) (f family) c.args.after.now) count) (paths_left (n family) (f family) walk.has_path walk.order) count done before.whole path rest at c.loop-done-test.true;
      },
    )

pub returns-then-has_failed : goal.returns-then-has_failed
returns-then-has_failed g c =
    let n = g.F.Inside.item_count c.args.f.now in
    let f = g.F.Inside.members c.args.f.now in
    let before = c.loop-done.invariant.1 in
    let left = paths_left n f c.loop-done.walk.has_path c.loop-done.walk.order in
    says_as before.whole (says_then before.said (says_void (page_bytes (path_line c.args.texts.now) left (c.args.count - c.loop-done._done)) (sym c.has_failed.ensures ∙ c.if-has_failed.true)))

pub returns-in_default : goal.returns-in_default
returns-in_default g c =
    let walk = c.loop-done.walk in
    let n = g.F.Inside.item_count in
    let f = g.F.Inside.members in
    let text = path_line c.args.texts.now in
    let family = c.args.f.now in
    let before = c.loop-done.invariant.1 in
    let left = paths_left (n family) (f family) walk.has_path walk.order in
    let whole = page_bytes text (paths_after (n family) (f family) c.args.after.now) c.args.count in
    let none : left ≡ [] = subst (λ x. paths_left (n x) (f x) walk.has_path walk.order ≡ []) before.family c.in_default.ensures.left in
    says_as (page-ended text c.loop-done.invariant.0 whole left c.args.count c.loop-done._done before.whole none) (says_then before.said c.put_more.ensures)

pub returns : goal.returns
returns g c =
    let walk = c.loop-done.walk in
    let n = g.F.Inside.item_count in
    let f = g.F.Inside.members in
    let text = path_line c.args.texts.now in
    let family = c.args.f.now in
    let before = c.loop-done.invariant.1 in
    let left = paths_left (n family) (f family) walk.has_path walk.order in
    let whole = page_bytes text (paths_after (n family) (f family) c.args.after.now) c.args.count in
    let more = c.is_some.ensures ∙ some-left c.path-2.result left (λ p. p.now) (λ p. filter (is_lex_before p.now) (paths (n family) (f family))) (λ h. h)
    (subst (λ x. MatchOption c.path-2.result (paths_left (n x) (f x) walk.has_path walk.order ≡ []) (λ p. paths_left (n x) (f x) walk.has_path walk.order ≡ p.now ∷ filter (is_lex_before p.now) (paths (n x) (f x)))) before.family c.path-2.ensures.left) in
    says_as (page-full text c.loop-done.invariant.0 whole left c.args.count c.loop-done._done before.whole c.is_some.result more c.loop-done-test.false) (says_then before.said c.put_more-2.ensures)
