use Rattle.std.proofs.Common.{◌∙◌, ◌≡◌, Ok, ap, length, sym}
use Rattle.ls_theory.specs.{based}
use Rattle.ls_clauses.proofs.BaseCovers.{based-cover}
use Rattle.ls_meaning.specs.{start_of_base}
use Rattle.ls_deciding.proofs.starts.base_of.Goals as goal

pub returns-in-Ok : goal.returns-in-Ok
returns-in-Ok c =
    let n = length c.args.domain.now in
    let sets = c.args.sets.now in
    let made : based n sets ≡ Ok c.in-Ok.base.sets =
    ap (λ m. based m sets) (sym c.count.ensures.value) ∙ c.in-Ok.ensures.based in (
      ap start_of_base made,
      record {
        items = c.in-Ok.ensures.item_count ∙ c.count.ensures.value;
        is_start = based-cover n sets c.in-Ok.base.sets c.requires made;
      },
    )
