use Rattle.ls_infer.proofs.Vocabulary.{◌∙◌, ◌≡◌, ap, closure, full, minus-within, subst, sym, true≢false, with}
use Rattle.std.specs.Prelude.{is_some}
use Rattle.ls_infer.proofs.Closing.{has_some}
use Rattle.ls_infer.proofs.block_closures.close_block.Goals as goal

pub returns-in_default-clause-within : goal.returns-in_default-clause-within
returns-in_default-clause-within g c = rw c.closure.ensures.value (minus-within (full (g.I.Interior.item_count c.args.f.now)) _)

pub returns-then-is_none-clause-within : goal.returns-then-is_none-clause-within
returns-then-is_none-clause-within g c = rw c.closure-then-is_none.ensures.value (minus-within (full (g.I.Interior.item_count c.args.f.now)) _)

pub returns-clause-value : goal.returns-clause-value
returns-clause-value g c first before =
    let n = g.I.Interior.item_count c.args.f.now in
    let f = g.I.Interior.members c.args.f.now in
    let item = c.in-Some.item in
    let kept = c.kept_closure_of.result in
    let is_kept_closure = c.kept_closure_of.ensures.kept f first before in
    let some = has_some kept.set (λ e. true≢false (sym c.if-is_none.ensures ∙ ap is_some (c.least.ensures.value ∙ e))) in
    let whole : kept.set ≡ c.args.walk.now.others = c.kept_closure_of.ensures.set some.0 some.1 ∙ c.others.ensures.others in
    let closed : kept.closed ≡ closure (full n) f kept.set = subst (λ m. kept.closed ≡ closure (full m) f kept.set) (sym c.requires.items) (is_kept_closure some.0 some.1) in
    c.close_with.ensures.value kept.set (rw (whole ∙ sym c.others.ensures.others, c.requires.items, ← c.requires.walk) c.others.ensures.within) closed
    ∙ ap (λ s. closure (full n) f (with s item)) whole
    ∙ ap (closure (full n) f) (sym c.in-Some.ensures.item)
