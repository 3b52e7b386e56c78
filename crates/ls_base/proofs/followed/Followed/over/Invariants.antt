use Rattle.ls_base.proofs.Vocabulary.{◌≡◌, IsAskable, IsFollowed, Query, Start, [], base, compat, is_good, take, true}
use Rattle.ls_base.proofs.followed.Followed.over.Given as goal

abbrev pub invariant-loop-place : goal.invariant-loop-place
invariant-loop-place l = record {
  followed : (start : Start) → l.fn.first.sets ≡ base (compat l.fn.first.item_count start []) → IsFollowed l.fn.first.item_count start (take l.place l.yeses) l.followed;
  askable : (r : Query) → is_good l.fn.first.item_count r ≡ true → IsAskable l.followed r;
}
