use Rattle.ls_write.proofs.Vocabulary.{◌++◌, ◌∙◌, ◌∷◌, ◌≡◌, [], ap, comma_if, false, full, items, length, listed, meet, name_of, names_of_set, quoted, quoted_name, sym}
use Rattle.ls_domain.proofs.NamedSets.{names_of_set-met}
use Rattle.ls_room.proofs.Saying.{says_as, says_nothing, says_then}
use Rattle.ls_write.proofs.Listed.{listed-map, listed-next, listed-end}
use Rattle.ls_write.proofs.surmise.put_quoted_names.Goals as goal

pub loop-item-init : goal.loop-item-init
loop-item-init g c =
    let names = c.args.texts.now in
    let same = c.into_iter-item-iterator.ensures.into_iter_gives ∙ c.items-item-items.ensures ∙ c.items_of.ensures in (
      [],
      record {
        said = says_nothing _ _ _;
        left = ap (λ s. listed (quoted_name names) false (items s)) same
            ∙ sym (listed-map quoted (name_of names) false (items (meet c.args.set (full (length names)))))
            ∙ ap (listed quoted false) (names_of_set-met names c.args.set);
      },
    )

pub loop-item-preserved : goal.loop-item-preserved
loop-item-preserved g c =
    let names = c.args.texts.now in
    let text = quoted_name names in
    let whole = listed quoted false (names_of_set names c.args.set) in
    let item = c.in-Some.item in
    let rest = items c.next.new.self in
    let given = c.loop-item.invariant.0 in
    let before = c.loop-item.invariant.1 in
    let step : items c.loop-item.item-iterator ≡ item ∷ rest = c.in-Some.ensures.steps in (
      given ++ (comma_if c.loop-item.later ++ text item),
      record {
        said = says_then before.said (says_then c.put_comma.ensures c.put_quoted.ensures);
        left = listed-next text given whole c.loop-item.later item rest (ap (λ l. given ++ listed text c.loop-item.later l) (sym step) ∙ before.left);
      },
    )

pub returns : goal.returns
returns g c =
    let names = c.args.texts.now in
    let before = c.loop-item.invariant.1 in
    says_as (listed-end (quoted_name names) c.loop-item.invariant.0 (listed quoted false (names_of_set names c.args.set)) c.loop-item.later (items c.loop-item.item-iterator) c.in-None.ensures.steps.0 before.left) before.said
