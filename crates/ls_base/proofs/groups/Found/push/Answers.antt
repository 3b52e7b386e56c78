use Rattle.ls_base.proofs.Vocabulary.{◌++◌, ◌∙◌, ◌∷◌, ◌≡◌, Items, List, [], ap, arith, length}
use Rattle.ls_base.proofs.Vocabulary.{length-set, subst, sym}
use Rattle.ls_base.specs.Sizes.{Rises}
use Rattle.ls_base.specs.declared.groups.Found.{Found}
use Rattle.ls_base.proofs.Grouped.{Grouped, put-none, put-some}
use Rattle.ls_base.proofs.groups.Found.push.Goals as goal
use Rattle.ls_base.proofs.groups.Found.push.Goals.{in-Some+in_ok-push, in_default}

pub returns-clause-grouped : goal.returns-clause-grouped
returns-clause-grouped c =
    let old = c.args.self.now in
    let k = c.args.set in
    let given = old.sets.items ++ k ∷ [] in
    elim c.match-least.branch [
      | in-Some+in_ok-push w ↦
          let items : c.push-2.new.self.items ≡ given = c.in_ok-push-2.ensures.items ∙ ap (λ (f :
          Found). f.sets.items ++ k ∷ []) w.self-is in
          let groups = ap (λ (f : Found). f.groups.items) w.self-is in
          record {
            rises = subst Rises (sym items) c.requires.rises;
            many = ap length groups ∙ length-set old.groups.items w.in-Some.item w.push.new.self ∙
                c.requires.grouped.many;
            grouped =
                subst (λ (l : List Items). Grouped l c.match-least.self.groups.items) (sym items)
                (subst (Grouped given) (sym groups)
                (put-some old.sets.items old.groups.items k w.in-Some.item w.index_mut.result.now
                w.push.new.self c.requires.grouped.grouped (sym w.in-Some.ensures.value)
                (omega (arith, w.in-Some.ensures.place, c.requires.grouped.many))
                w.index_mut.ensures.value w.in_ok-push.ensures.items));
          }
      | in_default w ↦
          let items : c.push-2.new.self.items ≡ given = c.in_ok-push-2.ensures.items ∙ ap (λ (f :
          Found). f.sets.items ++ k ∷ []) w.self-is in
          let groups = ap (λ (f : Found). f.groups.items) w.self-is in
          record {
            rises = subst Rises (sym items) c.requires.rises;
            many = ap length groups ∙ c.requires.grouped.many;
            grouped =
                subst (λ (l : List Items). Grouped l c.match-least.self.groups.items) (sym items)
                (subst (Grouped given) (sym groups) (put-none old.sets.items old.groups.items k
                c.requires.grouped.grouped (sym c.least.ensures.value ∙ w.in_default.is)));
          }
    ]
