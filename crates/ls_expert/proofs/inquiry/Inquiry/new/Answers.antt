use Rattle.ls_expert.proofs.Vocabulary.{◌∙◌, arith, begun, refl, start_of}
use Rattle.ls_expert.proofs.Holding.{made-one, one-made, held-begun}
use Rattle.ls_expert.proofs.Asking.{asking}
use Rattle.ls_expert.proofs.inquiry.Inquiry.new.Goals as goal

pub unwrap-blocks-requires : goal.unwrap-blocks-requires
unwrap-blocks-requires g c = rw (c.new.ensures.value ∙ made-one c.args.n c.requires.some c.requires.few) refl

pub invariant_of-result : goal.invariant_of-result
invariant_of-result g c =
    let i = begun c.args.n (start_of c.args.start) in
    let rules = c.in_ok-family.family.rules in
    let table = c.in_ok-family.table in
    let blocks = one-made c.args.n c.args.n c.new.result c.unwrap-blocks.result c.requires.some c.requires.few refl c.new.ensures.value c.unwrap-blocks.ensures in
    let held = held-begun c.args.n (start_of c.args.start) rules table c.requires.some c.requires.few c.requires.start.is_start c.in_ok-family.ensures.rules c.in_ok-family.ensures.table in
    rw (c.in_ok-family.ensures.inner, c.new-2.ensures.items) (asking i c.unwrap-blocks.result rules table c.next_query.result held blocks (omega arith) c.next_query.ensures)
