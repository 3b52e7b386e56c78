use Rattle.ls_expert.proofs.Vocabulary.{◌≡◌, ◌∙◌, Decides, Interview, IsHeld, IsSound, Ok, blocks_of, can_fit, interview_on, made, refl, start_of, sym, true≢false, yes_queries}
use Rattle.ls_expert.proofs.Asking.{asking}
use Rattle.ls_expert.proofs.Holding.{range-of, some-made}
use Rattle.ls_expert.proofs.Saving.{made-as, ran_out, no_table, fit-decides}
use Rattle.ls_expert.proofs.inquiry.Inquiry.from_standing.Given as given
use Rattle.ls_expert.proofs.inquiry.Inquiry.from_standing.Goals as goal
use Rattle.ls_expert.proofs.inquiry.Inquiry.from_standing.Goals.{In_ok-blocks, In_ok-copied}

-- the blocks are made
has_blocks : (g : given.Over) (c : In_ok-blocks g) → made c.args.n c.args.k ≡ Ok (record { item_count = c.args.n; largest = c.args.k })
has_blocks g c = made-as c.args.n c.args.k c.new.result c.in_ok-blocks.blocks c.new.ensures.value c.in_ok-blocks.was

-- the interview that is asked for
abbrev asked : (g : given.Over) → In_ok-blocks g → Interview
asked g c = interview_on c.args.n (start_of c.args.start) c.args.k c.args.answers.now c.args.next

range : (g : given.Over) (c : In_ok-blocks g) → c.in_ok-blocks.blocks ≡ blocks_of (asked g c)
range g c = range-of c.args.n c.args.k c.in_ok-blocks.blocks (sym c.new.ensures.value ∙ c.in_ok-blocks.was)

-- some space fits it exactly where each No is broken
decides : (g : given.Over) (c : In_ok-copied g) → Decides (can_fit c.args.n (start_of c.args.start) c.args.answers.now) (IsSound (interview_on c.args.n (start_of c.args.start) c.args.k c.args.answers.now c.args.next))
decides g c =
    fit-decides (interview_on c.args.n (start_of c.args.start) c.args.k c.args.answers.now c.args.next) c.requires.start.is_start (c.can_stand.ensures.good c.if-not-can_stand.false)

-- ---- what is refused

pub returns-then-not-can_stand-clause-fault : goal.returns-then-not-can_stand-clause-fault
returns-then-not-can_stand-clause-fault g c = (
  has_blocks g (goal.at.returns-then-not-can_stand-clause-fault g c).In_ok-blocks,
  λ stands. true≢false (sym (c.can_stand.ensures.needed (start_of c.args.start) c.args.k stands) ∙ c.if-not-can_stand.true),
)

pub returns-in_err-copied-clause-fault : goal.returns-in_err-copied-clause-fault
returns-in_err-copied-clause-fault g c = ran_out _ c.from_residual-in_err-copied.result _ (has_blocks g (goal.at.returns-in_err-copied-clause-fault g c).In_ok-blocks) c.from_residual-in_err-copied.ensures.1

pub returns-in_err-family-clause-fault : goal.returns-in_err-family-clause-fault
returns-in_err-family-clause-fault g c =
    no_table (asked g (goal.at.returns-in_err-family-clause-fault g c).In_ok-blocks) _ c.from_residual-in_err-family.result c.in_err-family.field-0.0 (has_blocks g (goal.at.returns-in_err-family-clause-fault g c).In_ok-blocks)
    (decides g (goal.at.returns-in_err-family-clause-fault g c).In_ok-copied) c.in_err-family.ensures.fault c.from_residual-in_err-family.ensures.1

-- ---- the parts

pub invariant_of-result : goal.invariant_of-result
invariant_of-result g c =
    let i = asked g (goal.at.invariant_of-result g c).In_ok-blocks in
    let held : IsHeld i (yes_queries i.answers) c.in_ok-family.table = record {
      some_items = c.requires.some;
      few_items = c.requires.few;
      ruled = refl;
      tabled = c.in_ok-family.ensures.table;
      standing = c.can_stand.ensures.enough i.start c.args.k c.if-not-can_stand.false ((decides g (goal.at.invariant_of-result g c).In_ok-copied).0 c.in_ok-family.ensures.fits);
    } in
    rw (c.in_ok-family.ensures.inner, c.in_ok-family.ensures.rules, c.in_ok-copied.ensures.items)
    (asking i c.in_ok-blocks.blocks (yes_queries i.answers) c.in_ok-family.table c.next_query.result held (range g (goal.at.invariant_of-result g c).In_ok-blocks) (some-made c.args.n c.args.k c.in_ok-blocks.blocks (sym c.new.ensures.value ∙ c.in_ok-blocks.was)) c.next_query.ensures)

pub returns-clause-made : goal.returns-clause-made
returns-clause-made g c =
    rw c.in_ok-family.ensures.inner (has_blocks g (goal.at.returns-clause-made g c).In_ok-blocks)

pub returns-clause-standing : goal.returns-clause-standing
returns-clause-standing g c =
    rw (c.in_ok-family.ensures.inner, c.in_ok-copied.ensures.items)
    (c.can_stand.ensures.enough (start_of c.args.start) c.args.k c.if-not-can_stand.false ((decides g (goal.at.returns-clause-standing g c).In_ok-copied).0 c.in_ok-family.ensures.fits))
