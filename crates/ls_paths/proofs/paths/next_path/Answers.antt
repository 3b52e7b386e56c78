use Rattle.ls_paths.proofs.Vocabulary.{◌∙◌, ◌≡◌, ap, false, filter, is_lex_before, is_order, paths, paths_left, sym, true}
use Rattle.ls_paths.proofs.Growths.{learning-from}
use Rattle.ls_paths.proofs.Levels.{whole-order}
use Rattle.ls_paths.proofs.Padding.{find-first_left, find-none_left}
use Rattle.ls_paths.proofs.paths.next_path.Goals as goal

pub returns-then-walk-clause-next : goal.returns-then-walk-clause-next
returns-then-walk-clause-next g c =
    let n = g.F.Inside.item_count c.args.f.now in
    let f = g.F.Inside.members c.args.f.now in
    let left : paths_left n f true c.from_order-walk.result.order ≡ filter (is_lex_before c.args.after.now) (paths n f) = ap (λ b. paths_left n f b c.from_order-walk.result.order) (sym c.if-walk.true) ∙ c.from_order-walk.ensures.left in
    find-first_left (is_lex_before c.args.after.now) (paths n f) _ c.from_order-walk.result.order left

pub returns-else-walk-clause-next : goal.returns-else-walk-clause-next
returns-else-walk-clause-next g c =
    let n = g.F.Inside.item_count c.args.f.now in
    let f = g.F.Inside.members c.args.f.now in
    let left : paths_left n f false c.from_order-walk.result.order ≡ filter (is_lex_before c.args.after.now) (paths n f) = ap (λ b. paths_left n f b c.from_order-walk.result.order) (sym c.if-walk.false) ∙ c.from_order-walk.ensures.left in
    find-none_left (is_lex_before c.args.after.now) (paths n f) left

pub returns-then-walk-clause-order : goal.returns-then-walk-clause-order
returns-then-walk-clause-order g c =
    let family = c.from_order-walk.result.family.now in
    let n = g.F.Inside.item_count family in
    let f = g.F.Inside.members family in
    let learning = learning-from n f (g.met.F.Inside.is_family family).small c.from_order-walk.result.learning in
    let order = whole-order n f c.from_order-walk.result.order learning (c.from_order-walk.result.whole c.if-walk.true) in
    ap (λ x. is_order (g.F.Inside.item_count x) c.from_order-walk.result.order) (sym c.from_order-walk.ensures.family) ∙ order
