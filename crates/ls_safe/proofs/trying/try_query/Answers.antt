use Rattle.std.proofs.Common.{◌∙◌, refl, sym}
use Rattle.ls_base.specs.Bases.{family}
use Rattle.ls_laws.proofs.Families.{spanned-IsFamily}
use Rattle.ls_safe.proofs.GoneOver.{trial-left, trial-can, trial-cannot, trial-same}
use Rattle.ls_safe.proofs.Witnesses.{witness-from}
use Rattle.ls_safe.proofs.trying.try_query.Goals as goal

pub returns-then-is_unchanged-clause-tried : goal.returns-then-is_unchanged-clause-tried
returns-then-is_unchanged-clause-tried c =
    trial-same c.args.b.now c.args.query.now (c.if-is_unchanged.ensures.same refl)
    c.requires.learning

pub returns-in-Learning-clause-tried : goal.returns-in-Learning-clause-tried
returns-in-Learning-clause-tried c =
    let b = c.args.b.now in
    let t = c.in_ok-trial.trial in
    let r = c.args.query.now in
    let left = trial-left b t r c.in_ok-trial.ensures.items c.in_ok-trial.ensures.sets in
    record {
      items = c.in_ok-trial.ensures.items;
      left = left;
      can =
          trial-can b.item_count (family b) (family t) r c.requires.learning c.requires.good left
          (sym c.test_base.ensures.verdict ∙ c.in-Learning.is);
    }

pub returns-in-NotGraded-clause-tried : goal.returns-in-NotGraded-clause-tried
returns-in-NotGraded-clause-tried c =
    let b = c.args.b.now in
    let t = c.in_ok-trial.trial in
    let r = c.args.query.now in
    let k = c.in-NotGraded.set in
    let i = c.in-NotGraded.first in
    let j = c.in-NotGraded.second in
    let left = trial-left b t r c.in_ok-trial.ensures.items c.in_ok-trial.ensures.sets in
    let verdict = sym c.test_base.ensures.verdict ∙ c.in-NotGraded.is in (
      witness-from b.item_count (family b) (family t) r k i j
          (spanned-IsFamily b.item_count b.sets) left verdict,
      trial-cannot b.item_count (family b) (family t) r k i j left verdict,
    )
