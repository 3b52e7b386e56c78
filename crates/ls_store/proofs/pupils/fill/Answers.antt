use Rattle.ls_store.proofs.Vocabulary.{◌+◌, ◌<◌, ◌∙◌, ◌≤◌, ArePupils, Err, ap, arith, length, length_push, most_pupils, pupil_codec, read_list, rules, subst, sym, view}
use Rattle.ls_pupils.proofs.Keeping.{are-more}
use Rattle.ls_store.proofs.PupilLists.{too-many, none-next, missed, next-read, all-read}
use Rattle.ls_store.proofs.pupils.fill.Goals as goal

pub returns-then-len-gt-MOST_PUPILS-clause-value : goal.returns-then-len-gt-MOST_PUPILS-clause-value
returns-then-len-gt-MOST_PUPILS-clause-value g c =
    sym (too-many (pupil_codec c.args.version c.args.n).read c.in-Some.entries.now.items (view c.args.value.now) (let l = c.if-len-gt-MOST_PUPILS.true in search rules) (let e = c.as_array.ensures in let f = c.in-Some.is in search rules))

pub returns-in_err-case-clause-value : goal.returns-in_err-case-clause-value
returns-in_err-case-clause-value g c =
    let f = (pupil_codec c.args.version c.args.n).read in
    missed _ _ c.in_err-case.field-0.0 c.from_residual.result c.from_residual.ensures.1
    (λ e. sym (none-next f c.loop-entry.cases c.deref-entry-items.result.now c.loop-entry.entry-index c.entry-item.result (read_list f (view c.args.value.now)) c.loop-entry-test.true c.entry-item.is
    (λ p is. c.in_err-case.ensures.none p (ap Err e) is) c.loop-entry.invariant.read))

pub loop-entry-preserved : goal.loop-entry-preserved
loop-entry-preserved g c =
    let n = c.args.n in
    let f = (pupil_codec c.args.version n).read in
    let cases = c.loop-entry.cases in
    let case = c.in_ok-case.case in
    let more = c.in_ok-push.ensures.ok in
    let entries : length c.in-Some.entries.now.items ≤ most_pupils = (let l = c.if-len-gt-MOST_PUPILS.false in search rules) in
    let same = ap (λ l. length l) c.deref-entry-items.ensures.value in
    let few : length cases < most_pupils = omega (arith, entries, same, c.loop-entry-test.true, c.loop-entry.invariant.count) in
    record {
      read = next-read f cases c.push.new.self case c.deref-entry-items.result.now c.loop-entry.entry-index c.entry-item.result (read_list f (view c.args.value.now)) c.loop-entry-test.true c.entry-item.is
          c.in_ok-case.ensures.value more c.loop-entry.invariant.read;
      cases = subst (ArePupils n) (sym more)
          (are-more n cases case c.loop-entry.invariant.cases few c.in_ok-case.ensures.own c.in_ok-case.ensures.case);
      count = ap (λ l. length l) more ∙ length_push cases case ∙ ap (λ k. k + 1) c.loop-entry.invariant.count;
    }

pub returns-clause-value : goal.returns-clause-value
returns-clause-value g c =
    let f = (pupil_codec c.args.version c.args.n).read in
    sym (all-read c.args.n f c.loop-entry.cases c.deref-entry-items.result.now c.loop-entry.entry-index (read_list f (view c.args.value.now)) c.loop-entry-test.false c.loop-entry.invariant.cases
    c.loop-entry.invariant.read)
