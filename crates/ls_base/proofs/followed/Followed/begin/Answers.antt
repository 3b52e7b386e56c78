use Rattle.ls_base.proofs.Vocabulary.{refl}
use Rattle.ls_base.proofs.Followings.{begun}
use Rattle.ls_base.proofs.followed.Followed.begin.Goals as goal

pub returns-clause-followed : goal.returns-clause-followed
returns-clause-followed c = λ start is. begun c.args.first.item_count start c.args.first refl is c.sets.ensures.few
