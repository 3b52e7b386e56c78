use Rattle.ls_drill.proofs.Based.{followed-base, never-past}
use Rattle.ls_drill.proofs.states.base_of_states.Goals as goal

pub unreachable-requires : goal.unreachable-requires
unreachable-requires c =
    never-past c.args.inquiry.now c.requires.drill c.requires.few c.in_ok-first_base.field-0 c.yes_queries.result.now c.in_ok-first_base.ensures.items c.in_ok-first_base.ensures.sets c.yes_queries.ensures.value
    c.in_ok-base.field-0 c.in_ok-base.ensures.followed c.in-Past.position c.in-Past.count c.in-Past.is

pub returns-clause-family : goal.returns-clause-family
returns-clause-family c =
    (followed-base c.args.inquiry.now c.requires.drill c.requires.few c.in_ok-first_base.field-0 c.yes_queries.result.now c.in_ok-first_base.ensures.items c.in_ok-first_base.ensures.sets c.yes_queries.ensures.value
    c.in_ok-base.field-0 c.in_ok-base.ensures.followed c.in-Within.base c.in-Within.is).spans

pub returns-clause-few : goal.returns-clause-few
returns-clause-few c =
    (followed-base c.args.inquiry.now c.requires.drill c.requires.few c.in_ok-first_base.field-0 c.yes_queries.result.now c.in_ok-first_base.ensures.items c.in_ok-first_base.ensures.sets c.yes_queries.ensures.value
    c.in_ok-base.field-0 c.in_ok-base.ensures.followed c.in-Within.base c.in-Within.is).few
