use Rattle.ls_base.proofs.Vocabulary.{◌++◌, ◌∷◌, IsFollowed, [], most_base_sets, subst, sym}
use Rattle.ls_base.proofs.Peaks.{peak-stays}
use Rattle.ls_base.proofs.Followings.{followed-same}
use Rattle.ls_base.proofs.followed.Followed.is_unchanged.Goals as goal

pub returns-in-Within-clause-followed : goal.returns-in-Within-clause-followed
returns-in-Within-clause-followed c = λ n start yeses h e.
    let told = c.is_unchanged.ensures in
    subst (IsFollowed n start (yeses ++ c.args.r.now ∷ [])) (sym c.in-Within.is)
    (followed-same n start yeses c.args.r.now c.in-Within.base (subst (IsFollowed n start yeses) c.in-Within.is h) (told.same e) told.few)

pub returns-in-Past-clause-followed : goal.returns-in-Past-clause-followed
returns-in-Past-clause-followed c = λ n start yeses h e.
    subst (IsFollowed n start (yeses ++ c.args.r.now ∷ [])) (sym c.in-Past.is)
    (peak-stays most_base_sets n start yeses c.args.r.now _ (subst (IsFollowed n start yeses) c.in-Past.is h))
