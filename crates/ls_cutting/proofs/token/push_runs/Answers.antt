use Rattle.ls_cutting.proofs.Vocabulary.{◌+◌, arith, sym}
use Rattle.ls_cutting.proofs.Runs.{runs-byte_by_byte, ends_run, is_alone, goes_on, few_more}
use Rattle.ls_cutting.proofs.token.push_runs.Goals as goal
use Rattle.ls_cutting.proofs.token.push_runs.Goals.{then-parts_words+in_ok-push_run, else-parts_words+then-stands_alone+in_ok-push_run-2+in_ok-push_run-3, else-parts_words+else-stands_alone}

pub loop-i-init : goal.loop-i-init
loop-i-init c = record {
  in_order = omega arith;
  few = rw c.requires (omega arith);
  runs_on = rw c.requires (runs-byte_by_byte c.args.line.now);
}

pub loop-i-preserved : goal.loop-i-preserved
loop-i-preserved c =
    let line = c.args.line.now in
    let start = c.loop-i.start in
    let i = c.loop-i.i in
    let seen = c.loop-i.tokens.items in
    let so_far = c.loop-i.invariant in
    let here = c.loop-i-test.true in
    elim c.if-parts_words.branch [
      | then-parts_words+in_ok-push_run w ↦ rw (w.tokens-is, w.start-is, w.in_ok-push_run.ensures) (record {
        in_order = omega arith;
        few = omega (arith, few_more line start i seen so_far.in_order (omega arith) so_far.few);
        runs_on = ends_run line start i seen _ so_far.in_order here (sym w.if-parts_words.ensures) so_far.runs_on;
      })
      | else-parts_words+then-stands_alone+in_ok-push_run-2+in_ok-push_run-3 w ↦ rw (w.tokens-is, w.start-is, w.in_ok-push_run-3.ensures, w.in_ok-push_run-2.ensures) (record {
        in_order = omega arith;
        few = few_more line i (i + 1) _ (omega arith) (omega arith) (few_more line start i seen so_far.in_order (omega arith) so_far.few);
        runs_on = is_alone line start i seen _ so_far.in_order here (sym w.if-parts_words.ensures) (sym w.if-stands_alone.ensures) so_far.runs_on;
      })
      | else-parts_words+else-stands_alone w ↦ rw (w.tokens-is, w.start-is) (record {
        in_order = omega arith;
        few = omega arith;
        runs_on = goes_on line start i seen _ so_far.in_order here (sym w.if-parts_words.ensures) (sym w.if-stands_alone.ensures) so_far.runs_on;
      })
    ]
