use Rattle.ls_space.proofs.Vocabulary.{◌∙◌, ◌≡◌, IsInOrder, Items, List, NotClosed, ap, ap₂, find, full, graded_by, is_among, is_missing, list_any, needed, subst, sym, unwrap_or, with_base}
use Rattle.std.proofs.lemmas.Result.{IfOk-weaker}
use Rattle.ls_space.proofs.Testing.{no_empty, no_full, not_closed, closed, needed-order, needed-again}
use Rattle.ls_space.proofs.space.test.Goals as goal

pub returns-then-not-contains : goal.returns-then-not-contains
returns-then-not-contains g c =
    let f = c.args.f.now.sets in
    record { verdict = sym (no_empty (full c.args.f.now.item_count) f (ap (is_among f) (sym c.empty.ensures) ∙ sym c.contains.ensures ∙ c.if-not-contains.true)) }

pub returns-then-not-contains-2 : goal.returns-then-not-contains-2
returns-then-not-contains-2 g c =
    let f = c.args.f.now.sets in
    record {
      verdict = sym (no_full (full c.args.f.now.item_count) f (ap (is_among f) (sym c.empty.ensures) ∙ sym c.contains.ensures ∙ c.if-not-contains.false)
          (ap (is_among f) (sym (c.full.ensures ∙ ap full c.items.ensures.count)) ∙ sym c.contains-2.ensures ∙ c.if-not-contains-2.true));
    }

pub returns-in-Some : goal.returns-in-Some
returns-in-Some g c =
    let f = c.args.f.now.sets in
    let is = c.deref.ensures.value ∙ c.in_ok-base.ensures ∙ ap needed c.members.ensures.sets in
    let right = c.unwrap_or-right.ensures ∙ ap₂ unwrap_or c.first_partner.ensures c.empty-in-Some.ensures in
    record {
      verdict = sym (not_closed (full c.args.f.now.item_count) f c.in-Some.left c.members.ensures.in_order
          (ap (is_among f) (sym c.empty.ensures) ∙ sym c.contains.ensures ∙ c.if-not-contains.false)
          (ap (is_among f) (sym (c.full.ensures ∙ ap full c.items.ensures.count)) ∙ sym c.contains-2.ensures ∙ c.if-not-contains-2.false)
          (ap (λ (b : List Items). find (λ k. list_any (is_missing f k) b) f) (sym is) ∙ sym c.in_ok-left.ensures ∙ c.in-Some.is) ∙ ap (NotClosed c.in-Some.left) (sym right));
    }

pub with_base-requires-clause-in_order : goal.with_base-requires-clause-in_order
with_base-requires-clause-in_order g c =
    let is = c.deref-2.ensures.value ∙ c.in_ok-base.ensures ∙ ap needed c.members.ensures.sets in
    subst IsInOrder (sym is) (needed-order c.args.f.now.sets c.members.ensures.in_order)

pub with_base-requires-clause-needed : goal.with_base-requires-clause-needed
with_base-requires-clause-needed g c =
    let is = c.deref-2.ensures.value ∙ c.in_ok-base.ensures ∙ ap needed c.members.ensures.sets in
    subst (λ (b : List Items). needed b ≡ b) (sym is) (needed-again c.args.f.now.sets c.members.ensures.in_order)

pub returns : goal.returns
returns g c =
    let f = c.args.f.now.sets in
    let is = c.deref.ensures.value ∙ c.in_ok-base.ensures ∙ ap needed c.members.ensures.sets in
    let too = c.deref-2.ensures.value ∙ c.in_ok-base.ensures ∙ ap needed c.members.ensures.sets in
    let told = closed (full c.args.f.now.item_count) f c.members.ensures.in_order
    (ap (is_among f) (sym c.empty.ensures) ∙ sym c.contains.ensures ∙ c.if-not-contains.false)
    (ap (is_among f) (sym (c.full.ensures ∙ ap full c.items.ensures.count)) ∙ sym c.contains-2.ensures ∙ c.if-not-contains-2.false)
    (ap (λ (b : List Items). find (λ k. list_any (is_missing f k) b) f) (sym is) ∙ sym c.in_ok-left.ensures ∙ c.in_default.is) in
    record { verdict = IfOk-weaker c.with_base.result _ _ (λ v e. e ∙ ap (λ (b : List Items). with_base b (graded_by b b)) too ∙ sym told) c.with_base.ensures }
