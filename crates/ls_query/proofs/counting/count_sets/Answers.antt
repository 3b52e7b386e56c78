use Rattle.ls_query.proofs.Vocabulary.{◌+◌, ◌<◌, ◌≡◌, ◌≤◌, Some, ℕ, arith, blocks, cases_eq, choose, false, find, find_first, find_none, inl, inr, is_too_wide, length, most_sets, numbers_from, sym}
use Rattle.ls_query.proofs.Binomials.{choose-none}
use Rattle.ls_query.proofs.BySize.{length-blocks_none}
use Rattle.ls_query.proofs.Counted.{length-blocks_next, choose-few, too_wide, not_too_wide}
use Rattle.ls_query.proofs.counting.count_sets.Goals as goal

pub loop-size-init : goal.loop-size-init
loop-size-init c = record {
  coefficient = sym (choose-none c.args.n);
  counted = sym (length-blocks_none c.args.n);
  few = omega arith;
  before = λ j l m. absurd (omega arith);
}

few_of_size : (n size of_size sets : ℕ) → of_size ≡ choose n size → sets ≡ length (blocks n size) → sets ≤ most_sets → of_size ≤ most_sets
few_of_size n size of_size sets e f l = rw e (choose-few n size most_sets (omega arith) (omega arith))

pub of_next_size-of_size-requires-clause-few : goal.of_next_size-of_size-requires-clause-few
of_next_size-of_size-requires-clause-few c =
    let v = c.loop-size.invariant in
    few_of_size c.args.n c.loop-size.size c.loop-size.of_size c.loop-size.sets v.coefficient v.counted v.few

pub overflow_add-sets : goal.overflow_add-sets
overflow_add-sets c =
    let v = c.loop-size.invariant in
    let one : c.loop-size.of_size ≤ most_sets = few_of_size c.args.n c.loop-size.size c.loop-size.of_size c.loop-size.sets v.coefficient v.counted v.few in
    let all : c.loop-size.sets ≤ most_sets = v.few in
    omega (arith, one, all, c.of_next_size-of_size.ensures.small)

pub loop-size-preserved : goal.loop-size-preserved
loop-size-preserved c =
    let v = c.loop-size.invariant in
    let n = c.args.n in
    let size = c.loop-size.size in
    let next : c.loop-size.sets + c.of_next_size-of_size.result ≡ length (blocks n (size + 1)) = rw (v.counted, c.of_next_size-of_size.ensures.value) (sym (length-blocks_next n size)) in
    let few : c.loop-size.sets + c.of_next_size-of_size.result ≤ most_sets = c.if-sets-gt-MOST_SETS.false in
    record {
      coefficient = c.of_next_size-of_size.ensures.value;
      counted = next;
      few = few;
      before = λ j l m. elim (cases_eq j (size + 1)) [
        | inl e ↦ rw e (not_too_wide n (size + 1) (omega (arith, next, few)))
        | inr d ↦ v.before j l (omega arith)
      ];
    }

first_wide : (n k size sets : ℕ) → size < k → sets ≡ length (blocks n (size + 1)) → most_sets < sets → ((j : ℕ) → 1 ≤ j → j < size + 1 → is_too_wide n j ≡ false) → find (is_too_wide n) (numbers_from 1 k) ≡ Some (size + 1)
first_wide n k size sets l e wide before = find_first (is_too_wide n) 1 k (size + 1) (omega arith) (omega arith) (too_wide n (size + 1) (omega arith)) before

pub returns-then-sets-gt-MOST_SETS-clause-past : goal.returns-then-sets-gt-MOST_SETS-clause-past
returns-then-sets-gt-MOST_SETS-clause-past c = λ size e.
    let same : c.loop-size.size + 1 ≡ size = cc in
    let v = c.loop-size.invariant in
    rw (sym same)
    (first_wide c.args.n c.args.k c.loop-size.size (c.loop-size.sets + c.of_next_size-of_size.result) (omega (arith, c.loop-size-test.true))
    (rw (v.counted, c.of_next_size-of_size.ensures.value) (sym (length-blocks_next c.args.n c.loop-size.size))) c.if-sets-gt-MOST_SETS.true v.before)

pub returns-clause-all : goal.returns-clause-all
returns-clause-all c = find_none (is_too_wide c.args.n) 1 c.args.k (λ j l m. c.loop-size.invariant.before j l (omega (arith, c.loop-size-test.false)))
