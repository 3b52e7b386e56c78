use Rattle.ls_base.proofs.Vocabulary.{IsFollowed, IsPastOf, base, family, left_by, most_base_sets, subst}
use Rattle.ls_base.proofs.Peaks.{peak-stays}
use Rattle.ls_base.proofs.Followings.{followed-within, followed-past}
use Rattle.ls_base.proofs.followed.Followed.after_yes.Goals as goal

pub returns-in-Past-clause-followed : goal.returns-in-Past-clause-followed
returns-in-Past-clause-followed c = λ n start yeses h last. peak-stays most_base_sets n start yeses c.args.r.now _ (subst (IsFollowed n start yeses) c.in-Past.is h)

pub returns-in-Ok-clause-followed : goal.returns-in-Ok-clause-followed
returns-in-Ok-clause-followed c = λ n start yeses h last.
    let told = c.in-Ok.ensures in
    followed-within n start yeses c.args.r.now c.in-Within.base c.in-Ok.next (subst (IsFollowed n start yeses) c.in-Within.is h) told.item_count told.sets told.few

pub returns-in-Err-Past-clause-followed : goal.returns-in-Err-Past-clause-followed
returns-in-Err-Past-clause-followed c = λ n start yeses h last.
    let b = c.in-Within.base in
    let past = subst (IsPastOf (base (left_by c.args.r.now (family b)))) c.in-Err-Past.field-0-is c.in-Err-Past.ensures.past in
    followed-past n start yeses c.args.r.now b c.args.position c.in-Err-Past.count (subst (IsFollowed n start yeses) c.in-Within.is h) last past.0 past.1
