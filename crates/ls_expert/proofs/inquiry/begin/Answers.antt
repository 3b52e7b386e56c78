use Rattle.ls_expert.proofs.Vocabulary.{◌*◌, ◌+◌, ◌∙◌, ◌≡◌, ◌≤◌, BlockRange, RuledState, StartOn, ℕ, [], ap, arith, blocks, breaks_none, compat, filter, length, refl, single_items, sym}
use Rattle.ls_expert.proofs.Holding.{kept-as, length-singles, made-one, one-made}
use Rattle.ls_standing.proofs.Ruling.{ruled-compat}
use Rattle.ls_expert.proofs.inquiry.begin.Given as given
use Rattle.ls_expert.proofs.inquiry.begin.Goals as goal
use Rattle.ls_expert.proofs.inquiry.begin.Goals.{After-unwrap-blocks}

pub unwrap-blocks-requires : goal.unwrap-blocks-requires
unwrap-blocks-requires g c = rw (c.new-2.ensures.value ∙ made-one c.args.n c.requires.some c.requires.few) refl

-- the blocks of single items
blocks_are : (g : given.Over) (c : After-unwrap-blocks g) → c.unwrap-blocks.result ≡ single_items c.args.n
blocks_are g c = one-made c.args.n c.args.n c.new-2.result c.unwrap-blocks.result c.requires.some c.requires.few refl c.new-2.ensures.value c.unwrap-blocks.ensures

pub build-requires-clause-items : goal.build-requires-clause-items
build-requires-clause-items g c =
    ap (λ (f : RuledState StartOn). f.inner.item_count) c.new-3.ensures ∙ ap (λ (s : StartOn). s.item_count) c.new-family.ensures.inner ∙ c.new.ensures.items
    ∙ sym (ap (λ (b : BlockRange). b.item_count) (blocks_are g (goal.at.build-requires-clause-items g c).After-unwrap-blocks))

pub returns-clause-table : goal.returns-clause-table
returns-clause-table g c =
    let f = c.new-family.result in
    let items = ap (λ (s : StartOn). s.item_count) c.new-family.ensures.inner ∙ c.new.ensures.items in
    let start = ap (λ (s : StartOn). s.start) c.new-family.ensures.inner ∙ c.new.ensures.start in
    let k = c.in_ok-table.ensures.built in
    kept-as (single_items c.args.n) _ _ _ _ c.in_ok-table.table
    (ap (λ (x : RuledState StartOn). filter (breaks_none x.rules) (compat x.inner.item_count x.inner.start [])) c.new-3.ensures
    ∙ ruled-compat f.inner.item_count f.inner.start f.rules ∙ rw (items, start, c.new-family.ensures.rules) refl)
    refl (rw (blocks_are g (goal.at.returns-clause-table g c).After-unwrap-blocks) at k)

-- an interior for each of their sets, and none for answers
for_sets : (b : BlockRange) (n m old now : ℕ) → b ≡ single_items n → now ≤ old + (length (blocks b.item_count b.largest) + (m + 1) * 0) → now ≤ old + n
for_sets b n m old now e cost =
    let sets : length (blocks b.item_count b.largest) ≡ n = ap (λ (b : BlockRange). length (blocks b.item_count b.largest)) e ∙ length-singles n in
    omega arith

pub returns-clause-cost : goal.returns-clause-cost
returns-clause-cost g c = for_sets c.unwrap-blocks.result c.args.n c.new-3.result.inner.item_count c.args.steps.now c.build.new.steps (blocks_are g (goal.at.returns-clause-cost g c).After-unwrap-blocks) c.build.ensures.cost

pub returns-in_err-table-clause-cost : goal.returns-in_err-table-clause-cost
returns-in_err-table-clause-cost g c =
    for_sets c.unwrap-blocks.result c.args.n c.new-3.result.inner.item_count c.args.steps.now c.build.new.steps (blocks_are g (goal.at.returns-in_err-table-clause-cost g c).After-unwrap-blocks) c.build.ensures.cost
