use Rattle.ls_query.proofs.Vocabulary.{◌∙◌, ◌≡◌, ◌≤◌, IsWithin-from, arith, blocks, false, full, is_within, is_within-from, length, rules, sym, true, true≢false}
use Rattle.ls_query.proofs.BySize.{length-blocks_shorter}
use Rattle.ls_query.proofs.Counted.{counted}
use Rattle.ls_query.proofs.Placed.{position-none, choose-bounded}
use Rattle.ls_query.proofs.After.{find-place_after, after-fewer}
use Rattle.ls_query.proofs.placing.place_of.Goals as goal
use Rattle.ls_query.proofs.placing.place_of.Goals.{then-size-eq0-via-then-size-eq0, then-size-eq0-via-else-size-eq0+then-size-k, then-size-eq0-via-else-size-eq0+else-size-k+then-not-is_within}

pub returns-then-size-eq0 : goal.returns-then-size-eq0
returns-then-size-eq0 c = sym (position-none c.args.n c.args.k c.args.a (λ h.
    let some = h.some in
    let few = h.few in
    elim c.then-size-eq0.branch [
      | then-size-eq0-via-then-size-eq0 w ↦ omega (arith, c.len-size.ensures, w.if-size-eq0.true)
      | then-size-eq0-via-else-size-eq0+then-size-k w ↦ omega (arith, c.len-size.ensures, w.if-size-k.true)
      | then-size-eq0-via-else-size-eq0+else-size-k+then-not-is_within w ↦
          let out : is_within c.args.a (full c.args.n) ≡ false = rw (← w.full.ensures, ← w.is_within.ensures) (search rules) in
          true≢false (sym (is_within-from c.args.a (full c.args.n) h.within) ∙ out)
    ]))

pub unwrap-up_to_size-requires : goal.unwrap-up_to_size-requires
unwrap-up_to_size-requires c =
    let few = c.if-size-k.false in
    let fewer : length (blocks c.args.n c.len-size.result) ≤ length (blocks c.args.n c.args.k) = length-blocks_shorter c.args.n c.len-size.result c.args.k few in
    counted c.args.n c.len-size.result c.count_sets.result (omega (arith, fewer, c.requires.few)) c.count_sets.ensures.past

pub overflow_sub-result : goal.overflow_sub-result
overflow_sub-result c =
    let within : is_within c.args.a (full c.args.n) ≡ true = rw (← c.full.ensures, ← c.is_within.ensures) (search rules) in
    let up_to_size : c.unwrap-up_to_size.result ≡ length (blocks c.args.n c.len-size.result) = rw c.unwrap-up_to_size.ensures at c.count_sets.ensures.sets in
    let fewer = after-fewer c.args.n c.len-size.result c.args.a (IsWithin-from c.args.a (full c.args.n) within) (sym c.len-size.ensures) (omega (arith, c.if-size-eq0.false)) in
    omega (arith, up_to_size, fewer)

pub overflow_sub-result-2 : goal.overflow_sub-result-2
overflow_sub-result-2 c =
    let within : is_within c.args.a (full c.args.n) ≡ true = rw (← c.full.ensures, ← c.is_within.ensures) (search rules) in
    let up_to_size : c.unwrap-up_to_size.result ≡ length (blocks c.args.n c.len-size.result) = rw c.unwrap-up_to_size.ensures at c.count_sets.ensures.sets in
    let fewer = after-fewer c.args.n c.len-size.result c.args.a (IsWithin-from c.args.a (full c.args.n) within) (sym c.len-size.ensures) (omega (arith, c.if-size-eq0.false)) in
    omega (arith, up_to_size, c.count_after.ensures, fewer)

pub count_after-requires-clause-within : goal.count_after-requires-clause-within
count_after-requires-clause-within c =
    let within : is_within c.args.a (full c.args.n) ≡ true = rw (← c.full.ensures, ← c.is_within.ensures) (search rules) in
    IsWithin-from c.args.a (full c.args.n) within

pub count_after-requires-clause-few : goal.count_after-requires-clause-few
count_after-requires-clause-few c = λ m j l h. choose-bounded c.args.n c.args.k m j c.requires.few l (omega (arith, c.if-size-k.false, h, c.len-size.ensures))

pub returns : goal.returns
returns c =
    let within : is_within c.args.a (full c.args.n) ≡ true = rw (← c.full.ensures, ← c.is_within.ensures) (search rules) in
    let some = c.if-size-eq0.false in
    let few = c.if-size-k.false in
    let up_to_size : c.unwrap-up_to_size.result ≡ length (blocks c.args.n c.len-size.result) = rw c.unwrap-up_to_size.ensures at c.count_sets.ensures.sets in
    rw (up_to_size, c.count_after.ensures)
    (sym (find-place_after c.args.n c.args.k c.len-size.result c.args.a
    (record { within = IsWithin-from c.args.a (full c.args.n) within; some = omega (arith, c.len-size.ensures); few = omega (arith, c.len-size.ensures) })
    (sym c.len-size.ensures)))
