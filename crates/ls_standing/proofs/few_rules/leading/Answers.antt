use Rattle.ls_standing.proofs.Vocabulary.{◌++◌, ◌+◌, ◌∙◌, ◌∷◌, ◌≡◌, List, Query, RuledState, StartOn, [], ap, breaks, breaks_none, compat, filter, is_good, list_all, not, some_breaks, subst, sym, take, take_all, take_more, true}
use Rattle.ls_lists.proofs.Overwriting.{all-at}
use Rattle.ls_standing.proofs.FewerRules.{compat-alike, more-kept, more-given}
use Rattle.ls_standing.proofs.Ruling.{ruled-compat}
use Rattle.ls_standing.proofs.few_rules.leading.Goals as goal
use Rattle.ls_standing.proofs.few_rules.leading.Goals.{then-is_broken+in_ok-reserve, else-is_broken}

pub loop-rule-init : goal.loop-rule-init
loop-rule-init g c = record { inner = c.new-family.ensures.inner; members = ap (compat c.args.first.now.item_count c.args.first.now.start) c.new-family.ensures.rules }

pub is_broken-requires : goal.is_broken-requires
is_broken-requires g c =
    let n = c.args.first.now.item_count in
    let all : list_all (is_good n) c.deref-rule-items.result.now ≡ true = ap (list_all (is_good n)) c.deref-rule-items.ensures.value ∙ c.in_ok-sorted.ensures (is_good n) ∙ c.requires in
    let same : c.new.result.inner.item_count ≡ n = ap (λ (f : RuledState StartOn). f.inner.item_count) c.new.ensures ∙ ap (λ (s : StartOn). s.item_count) c.loop-rule.invariant.inner in
    subst (λ m. is_good m c.rule-item.result ≡ true) (sym same) (all-at (is_good n) c.deref-rule-items.result.now c.loop-rule.rule-index c.rule-item.result all c.loop-rule-test.true c.rule-item.is)

pub push_reserved-requires-clause-good : goal.push_reserved-requires-clause-good
push_reserved-requires-clause-good g c =
    let n = c.args.first.now.item_count in
    let all : list_all (is_good n) c.deref-rule-items.result.now ≡ true = ap (list_all (is_good n)) c.deref-rule-items.ensures.value ∙ c.in_ok-sorted.ensures (is_good n) ∙ c.requires in
    let same : c.reserve.new.self.inner.item_count ≡ n = ap (λ (s : StartOn). s.item_count) (c.in_ok-reserve.ensures.inner ∙ c.loop-rule.invariant.inner) in
    subst (λ m. is_good m c.rule-item.result ≡ true) (sym same) (all-at (is_good n) c.deref-rule-items.result.now c.loop-rule.rule-index c.rule-item.result all c.loop-rule-test.true c.rule-item.is)

pub loop-rule-preserved : goal.loop-rule-preserved
loop-rule-preserved g c =
    let n = c.args.first.now.item_count in
    let start = c.args.first.now.start in
    let rules = c.loop-rule.family.rules in
    let xs = c.deref-rule-items.result.now in
    let i = c.loop-rule.rule-index in
    let r = c.rule-item.result in
    let next : take (i + 1) xs ≡ take i xs ++ r ∷ [] = take_more xs i r c.loop-rule-test.true ∙ ap (λ (q : Query). take i xs ++ q ∷ []) (sym c.rule-item.is) in
    let told : c.is_broken.result ≡ some_breaks (compat n start rules) r = c.is_broken.ensures
    ∙ ap (λ (f : RuledState StartOn). some_breaks (filter (breaks_none f.rules) (compat f.inner.item_count f.inner.start [])) r) c.new.ensures
    ∙ ap (λ (s : StartOn). some_breaks (filter (breaks_none rules) (compat s.item_count s.start [])) r) c.loop-rule.invariant.inner
    ∙ ap (λ f. some_breaks f r) (ruled-compat n start rules) in
    elim c.if-is_broken.branch [
      | then-is_broken+in_ok-reserve w ↦ rw w.family-is (record {
        inner = w.push_reserved.ensures.inner ∙ w.in_ok-reserve.ensures.inner ∙ c.loop-rule.invariant.inner;
        members = ap (compat n start) (w.push_reserved.ensures.rules ∙ ap (λ (rs : List Query). rs ++ r ∷ []) w.in_ok-reserve.ensures.rules)
            ∙ more-kept n start rules (take i xs) r c.loop-rule.invariant.members ∙ ap (compat n start) (sym next);
      })
      | else-is_broken w ↦ rw w.family-is (record {
        inner = c.loop-rule.invariant.inner;
        members = more-given n start rules (take i xs) r (sym told ∙ w.if-is_broken.false) c.loop-rule.invariant.members ∙ ap (compat n start) (sym next);
      })
    ]

pub returns-clause-inner : goal.returns-clause-inner
returns-clause-inner g c = c.loop-rule.invariant.inner

pub returns-clause-members : goal.returns-clause-members
returns-clause-members g c =
    let n = c.args.first.now.item_count in
    let start = c.args.first.now.start in
    let xs = c.deref-rule-items.result.now in
    c.loop-rule.invariant.members ∙ ap (compat n start) (take_all c.loop-rule.rule-index xs c.loop-rule-test.false)
    ∙ compat-alike n start xs c.args.rules.now (λ k. ap (list_all (λ r. not (breaks k r))) c.deref-rule-items.ensures.value ∙ c.in_ok-sorted.ensures (λ r. not (breaks k r)))
