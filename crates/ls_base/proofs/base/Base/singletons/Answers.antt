use Rattle.ls_base.proofs.Vocabulary.{◌∙◌, ◌≡◌, ◌≤◌, BaseState, Items, List, ap, base, length, single_sets, subsets, subsets-IsUnionFamily, subsets_from-in_order, subst, sym}
use Rattle.ls_base.proofs.Given.{base-given}
use Rattle.ls_base.proofs.Spanned.{base-again, singles-on, spanned-singles, few-singles}
use Rattle.ls_base.proofs.base.Base.singletons.Goals as goal

made : (c : goal.In_ok-sets) → base (subsets c.args.n) ≡ c.in_ok-sets.sets.items
made c =
    ap base (sym (spanned-singles c.args.n))
    ∙ base-given c.args.n (single_sets c.args.n) c.in_ok-single_sets.field-0.items c.in_ok-sets.sets.items c.in_ok-single_sets.ensures (singles-on c.args.n) c.in_ok-sets.ensures.base

pub invariant_of-result : goal.invariant_of-result
invariant_of-result c = record {
  few_items = c.requires;
  is_base = base-again c.args.n (subsets c.args.n) c.in_ok-sets.sets.items (subsets_from-in_order 0 c.args.n) (subsets-IsUnionFamily c.args.n) (made c);
  few = few-singles c.args.n (length c.in_ok-sets.sets.items) c.requires (subst (λ (g : List Items). length c.in_ok-sets.sets.items ≤ length g) c.in_ok-single_sets.ensures c.in_ok-sets.ensures.few);
}

pub returns : goal.returns
returns c = ap (λ (sets : List Items). let b : BaseState = record { item_count = c.args.n; sets = sets } in b) (sym (made c))
