use Rattle.ls_expert.proofs.Vocabulary.{◌∙◌, ◌≡◌, BlockRange, IfOk-weaker, List, No, Query, RuledState, StartOn, ℕ, [], ap, ap₂, breaks_none, compat, filter, is_good, list_all, made, not, refl, single_items, sym, true}
use Rattle.ls_standing.proofs.AnswerLists.{all-told}
use Rattle.ls_expert.proofs.Holding.{kept-as, made-one, one-made}
use Rattle.ls_standing.proofs.Ruling.{ruled-compat}
use Rattle.ls_expert.proofs.inquiry.build.Given as given
use Rattle.ls_expert.proofs.inquiry.build.Goals as goal
use Rattle.ls_expert.proofs.inquiry.build.Goals.{After-unwrap-blocks}

pub unwrap-blocks-requires : goal.unwrap-blocks-requires
unwrap-blocks-requires g c = rw (c.new.ensures.value ∙ ap (λ n. made n 1) c.items.ensures.count ∙ made-one c.args.family.now.inner.item_count c.requires.some c.requires.few) refl

-- the sets that the fewer rules leave
left_are : (f : RuledState StartOn) (l : RuledState StartOn) (first : StartOn) (rules : List Query) → first ≡ f.inner → rules ≡ f.rules → l.inner ≡ first
    → compat first.item_count first.start l.rules ≡ compat first.item_count first.start rules
    → filter (breaks_none l.rules) (compat l.inner.item_count l.inner.start []) ≡ compat f.inner.item_count f.inner.start f.rules
left_are f l first rules e d i same =
    ap (λ (s : StartOn). filter (breaks_none l.rules) (compat s.item_count s.start [])) i
    ∙ ruled-compat first.item_count first.start l.rules ∙ same
    ∙ ap₂ (λ (s : StartOn) (rs : List Query). compat s.item_count s.start rs) e d

-- the blocks of single items
blocks_are : (g : given.Over) (c : After-unwrap-blocks g) → c.unwrap-blocks.result ≡ single_items c.args.family.now.inner.item_count
blocks_are g c = one-made c.args.family.now.inner.item_count c.items.result c.new.result c.unwrap-blocks.result c.requires.some c.requires.few c.items.ensures.count c.new.ensures.value c.unwrap-blocks.ensures

pub leading-requires : goal.leading-requires
leading-requires g c = rw (c.inner.ensures, c.rules.ensures) c.requires.rules

pub build-requires-clause-items : goal.build-requires-clause-items
build-requires-clause-items g c =
    ap (λ (f : RuledState StartOn). f.inner.item_count) c.new-2.ensures ∙ ap (λ (s : StartOn). s.item_count) (c.in_ok-leading.ensures.inner ∙ c.inner.ensures) ∙ sym (ap (λ (b : BlockRange). b.item_count) (blocks_are g (goal.at.build-requires-clause-items g c).After-unwrap-blocks))

pub build-requires-clause-good : goal.build-requires-clause-good
build-requires-clause-good g c =
    let n = c.args.family.now.inner.item_count in
    let told : list_all (λ (a : No). is_good c.new-2.result.inner.item_count a.query) c.deref.result.now ≡ true =
    ap₂ (λ (m : ℕ) (l : List No). list_all (λ (a : No). is_good m a.query) l) (ap (λ (f : RuledState StartOn). f.inner.item_count) c.new-2.ensures ∙ ap (λ (s : StartOn). s.item_count) (c.in_ok-leading.ensures.inner ∙ c.inner.ensures)) (c.deref.ensures.value ∙ c.in_ok-nos.ensures)
    ∙ all-told (λ (a : No). is_good n a.query) (λ a. not a.yes) (λ a. let x : No = record { number = a.number; query = a.query } in x) c.args.answers.now c.requires.good in
    told

pub returns : goal.returns
returns g c =
    let f = c.args.family.now in
    IfOk-weaker c.build.result _ _
    (λ t k. kept-as (single_items f.inner.item_count) _ _ _ _ t
    (rw c.new-2.ensures (left_are f c.in_ok-leading.leading c.inner.result.now c.rules.result.now c.inner.ensures c.rules.ensures c.in_ok-leading.ensures.inner c.in_ok-leading.ensures.members))
    (c.deref.ensures.value ∙ c.in_ok-nos.ensures) (rw (blocks_are g (goal.at.returns g c).After-unwrap-blocks) at k))
    c.build.ensures.built
