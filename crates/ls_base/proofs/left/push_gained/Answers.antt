use Rattle.std.proofs.Common.{◌≡◌, ◌∙◌, ◌++◌, ap, filter, subst, sym}
use Rattle.std.specs.Prelude.{OnOk}
use Rattle.ls_set.specs.{empty, with}
use Rattle.ls_laws.specs.Spans.{joins, touches}
use Rattle.ls_laws.specs.LeastSets.{IsBelow, having}
use Rattle.ls_base.specs.Gains.{is_gained}
use Rattle.ls_base.proofs.Lowest.{gained-by-lowest}
use Rattle.ls_base.proofs.left.push_gained.Goals as goal

pub returns : goal.returns
returns c =
    let staying = c.args.staying.now in
    let near = c.args.near.now in
    let i = c.args.i in
    let there = c.deref.result.now in
    let breaking = c.deref-2.result.now in
    let one : c.with.result ≡ with empty i =
    c.with.ensures ∙ ap (λ s. with s i) c.empty.ensures in
    let low : IsBelow there (filter (λ k. touches k (with empty i)) staying) =
    subst (λ l. IsBelow l (filter (λ k. touches k (with empty i)) staying))
    (sym c.deref.ensures.value)
    (subst (λ s. IsBelow c.in_ok-there.there.items (filter (λ k. touches k s) staying)) one
    c.in_ok-there.ensures.below) in
    subst (λ g. OnOk c.push_joins.result
    (c.push_joins.new.gained.items ≡ c.args.left.now.items ++ g))
    (gained-by-lowest there staying breaking near (joins breaking near) i low
    ∙ ap (λ sets. filter (is_gained (having i staying) sets near) (joins sets near))
    (c.deref-2.ensures.value ∙ c.in_ok-breaking.ensures))
    c.push_joins.ensures
