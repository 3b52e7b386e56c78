use Rattle.std.proofs.Common.{◌∙◌, ap, ap₂, sym, length}
use Rattle.ls_origins.specs.Relations.{kept_sets, quasi_pair}
use Rattle.ls_order.proofs.Surmised.{family-read, fault-quasi, fault-two, none-read, order-read}
use Rattle.ls_order.proofs.Surmised.{pair-read}
use Rattle.ls_order.proofs.relation.Relation.from_surmise.Goals as goal

pub returns-in-Some-clause-fault : goal.returns-in-Some-clause-fault
returns-in-Some-clause-fault c =
    let s = c.args.s.now in
    fault-two s.item_count s.clauses c.in-Some.item (sym c.two_clauses.ensures ∙ c.in-Some.is)

pub returns-in-Some-quasi_pair-clause-fault : goal.returns-in-Some-quasi_pair-clause-fault
returns-in-Some-quasi_pair-clause-fault c =
    let s = c.args.s.now in
    let found = c.in-Some-quasi_pair in
    let told =
    pair-read s.item_count s.clauses c.deref.result.now c.quasi_pair.result c.requires.surmise
    (c.deref.ensures.value ∙ c.in_ok-below.ensures.below) c.quasi_pair.ensures in
    fault-quasi s.item_count s.clauses (sym c.two_clauses.ensures ∙ c.in_default.is) found.first
    found.second (sym told ∙ found.is)

pub from_order-requires-clause-order : goal.from_order-requires-clause-order
from_order-requires-clause-order c =
    let s = c.args.s.now in
    let rows = c.in_ok-below.below.items in
    let is = c.in_ok-below.ensures.below in
    let told =
    c.quasi_pair.ensures ∙ ap (λ rows. quasi_pair (length rows) rows) c.deref.ensures.value in
    order-read s.item_count s.clauses rows c.quasi_pair.result c.requires.surmise is told
    (none-read s.item_count s.clauses rows c.quasi_pair.result c.requires.surmise is told
    (sym c.two_clauses.ensures ∙ c.in_default.is) c.in_default-quasi_pair.is)

pub returns-clause-below : goal.returns-clause-below
returns-clause-below c =
    let s = c.args.s.now in
    let rows = c.in_ok-below.below.items in
    let is = c.in_ok-below.ensures.below in
    let told =
    c.quasi_pair.ensures ∙ ap (λ rows. quasi_pair (length rows) rows) c.deref.ensures.value in (
      none-read s.item_count s.clauses rows c.quasi_pair.result c.requires.surmise is told
          (sym c.two_clauses.ensures ∙ c.in_default.is) c.in_default-quasi_pair.is,
      c.from_order.ensures.below ∙ is,
    )

pub returns-clause-family : goal.returns-clause-family
returns-clause-family c =
    let s = c.args.s.now in
    let rows = c.in_ok-below.below.items in
    let is = c.in_ok-below.ensures.below in
    let told =
    c.quasi_pair.ensures ∙ ap (λ rows. quasi_pair (length rows) rows) c.deref.ensures.value in
    ap₂ kept_sets c.from_order.ensures.item_count c.from_order.ensures.below
    ∙ family-read s.item_count s.clauses rows c.quasi_pair.result c.requires.surmise is told
    (none-read s.item_count s.clauses rows c.quasi_pair.result c.requires.surmise is told
    (sym c.two_clauses.ensures ∙ c.in_default.is) c.in_default-quasi_pair.is)
