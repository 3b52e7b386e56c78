use Rattle.ls_surmise.proofs.Vocabulary.{◌++◌, ◌∙◌, ◌∷◌, ◌≡◌, Data, List, [], ap, append-nil, append_assoc, array, items, items_of, map, name_of, string, sym, view-Array}
use Rattle.ls_domain.proofs.NamedSets.{names_of_set-within}
use Rattle.ls_surmise.proofs.Printed.{name-next}
use Rattle.ls_surmise.proofs.printing.clause_value.Goals as goal

pub loop-item-preserved : goal.loop-item-preserved
loop-item-preserved c = record {
  named = name-next c.args.d.now c.loop-item.yielded c.in-Some.item c.loop-item.names.items _ c.in_ok-name.name c.loop-item.invariant.named (c.in_ok-name.ensures.ok ∙ c.name.ensures) c.in_ok-push.ensures.items;
  split = append_assoc c.loop-item.yielded (c.in-Some.item ∷ []) (items c.next.new.self) ∙ ap (λ l. c.loop-item.yielded ++ l) (sym c.in-Some.ensures.steps) ∙ c.loop-item.invariant.split;
}

pub returns : goal.returns
returns c =
    let names = c.args.d.now in
    let all : c.loop-item.yielded ≡ items c.args.clause = sym (append-nil c.loop-item.yielded) ∙ ap (λ l. c.loop-item.yielded ++ l) (sym c.in-None.ensures.steps.0) ∙ c.loop-item.invariant.split in
    view-Array c.loop-item.names
    ∙ ap (λ (ds : List Data). array (items_of ds)) (c.loop-item.invariant.named
    ∙ ap (map string) (ap (map (name_of names)) all ∙ sym (names_of_set-within names c.args.clause c.requires)))
