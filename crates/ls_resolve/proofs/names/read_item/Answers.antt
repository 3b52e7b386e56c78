use Rattle.std.proofs.Common.{◌≡◌, ℕ, List, Option, None, Some, sym, ap, ◌∙◌, unwrap_or}
use Rattle.std.specs.Prelude.{slice_get}
use Rattle.ls_domain.specs.Meanings.{number_of}
use Rattle.ls_resolve.proofs.Placing.{unnamed-item}
use Rattle.ls_resolve.proofs.names.read_item.Goals as goal

pub returns-in-Some-clause-resolves : goal.returns-in-Some-clause-resolves
returns-in-Some-clause-resolves c =
    let names = c.args.domain.now in
    let is : Some c.in-Some.q ≡ number_of names c.args.item.now =
    sym c.in-Some.is ∙ c.number.ensures.value ∙ ap (number_of names) c.as_str.ensures in (
      ap (λ (o : Option ℕ). unwrap_or o 0) is,
      unnamed-item names c.args.place c.args.item.now (Some c.in-Some.q) is,
    )

pub returns-in-None-clause-resolves : goal.returns-in-None-clause-resolves
returns-in-None-clause-resolves c =
    let names = c.args.domain.now in
    ap (λ (ps : List ℕ). slice_get ps 0)
    (unnamed-item names c.args.place c.args.item.now None
    (sym c.in-None.is ∙ c.number.ensures.value ∙ ap (number_of names) c.as_str.ensures))
