use Rattle.std.proofs.Common.{◌+◌, ℕ, option_map, ap, ◌∙◌}
use Rattle.std.specs.declared.option.Option.{Option}
use Rattle.ls_lists.proofs.Places.{no_first}
use Rattle.ls_resolve.proofs.Placing.{unnamed-placed}
use Rattle.ls_resolve.proofs.names.read_names.Goals as goal

pub returns-in-Ok-clause-resolves : goal.returns-in-Ok-clause-resolves
returns-in-Ok-clause-resolves c = (
  c.in-Ok.ensures.set,
  no_first _ (unnamed-placed c.args.domain.now c.args.names.now c.args.first
      ∙ ap (λ (o : Option ℕ). option_map (λ i. c.args.first + i) o) c.in-Ok.ensures.named),
)

pub returns-in-Err-clause-resolves : goal.returns-in-Err-clause-resolves
returns-in-Err-clause-resolves c =
    unnamed-placed c.args.domain.now c.args.names.now c.args.first
    ∙ ap (λ (o : Option ℕ). option_map (λ i. c.args.first + i) o) c.in-Err.ensures.unknown
