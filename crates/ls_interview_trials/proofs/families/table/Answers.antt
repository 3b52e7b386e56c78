use Rattle.std.proofs.Common.{ap, sym, ◌∙◌}
use Rattle.ls_theory.specs.{BlockRange}
use Rattle.ls_query.proofs.Made.{made_of}
use Rattle.ls_infer.specs.Tables.{TableState}
use Rattle.ls_interview_trials.proofs.families.table.Goals as goal

pub build-requires-clause-items : goal.build-requires-clause-items
build-requires-clause-items g c =
    c.requires ∙ ap (λ (b : BlockRange). b.item_count) (made_of 3 1 c.in-Ok.blocks (sym c.new.ensures.value ∙ c.in-Ok.is))

pub changes-requires-clause-blocks : goal.changes-requires-clause-blocks
changes-requires-clause-blocks g c =
    ap (λ (t : TableState). t.blocks.item_count) c.in-Ok-build.ensures.built.table
    ∙ sym (ap (λ (b : BlockRange). b.item_count) (made_of 3 1 c.in-Ok.blocks (sym c.new.ensures.value ∙ c.in-Ok.is)))
