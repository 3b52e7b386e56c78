-- The assessment of one pupil: the half-split question, the leader, and when it is over.
use Rattle.std.specs.Prelude.{ℕ, ◌*◌, Bool, ◌==◌, nat_le, if◌then◌else◌, List, length}
use Rattle.std.specs.Prelude.{Option, Some, None, unwrap_or}
use Rattle.std.specs.Int.{abs_diff}
use Rattle.ls_set.specs.{Items, empty, numbers_from}
use Rattle.ls_theory.specs.Words.{first_least, first_greatest}
use Rattle.ls_theory.specs.declared.ratio.Ratios.{Ratios}
use Rattle.ls_theory.specs.declared.reply.Reply.{Reply}
use Rattle.ls_theory.specs.declared.reply_fault.ReplyFault.{ReplyFault}
use Rattle.ls_theory.specs.declared.reply_fault.ReplyFault.TheVariants as fault
use Rattle.ls_theory.specs.declared.reason.Reason.TheVariants.{Share, Budget}
use Rattle.ls_theory.specs.declared.asked.Asked.{Asked}
use Rattle.ls_theory.specs.declared.asked.Asked.TheVariants.{Item, Over}
use Rattle.ls_theory.specs.declared.outcome.Outcome.{Outcome}
use Rattle.ls_theory.specs.Settings.{Settings}
use Rattle.ls_theory.specs.Weights.{weight, mass, total}

-- the distance between twice the mass of q and the total
unfoldable pub imbalance : List Ratios → List Reply → List Items → ℕ → ℕ
imbalance ratios replies f q = abs_diff (2 * mass ratios replies f q) (total ratios replies f)

-- the half-split question: the least item whose distance is least
unfoldable pub half_split : List Ratios → List Reply → List Items → ℕ
half_split ratios replies f =
    unwrap_or (first_least (imbalance ratios replies f) (numbers_from 0 (length ratios))) 0

-- the leader: the first member of greatest weight
unfoldable pub leader : List Ratios → List Reply → List Items → Items
leader ratios replies f = unwrap_or (first_greatest (weight ratios replies) f) empty

-- 100 times the leader's weight is at least the share times the total
abbrev pub has_share : Settings → List Items → List Reply → Bool
has_share s f replies =
    nat_le (s.share * total s.ratios replies f)
    (100 * weight s.ratios replies (leader s.ratios replies f))

-- over by share, or else over by budget, or else the next question
unfoldable pub asked : Settings → List Items → List Reply → Asked
asked s f replies =
    if has_share s f replies then Over Share
    else (if length replies == s.budget then Over Budget
    else Item (half_split s.ratios replies f))

-- the leader with its weight, the total and the number of replies
abbrev pub outcome : Settings → List Items → List Reply → Outcome
outcome s f replies =
    let k = leader s.ratios replies f in
    record {
      state = k;
      weight = weight s.ratios replies k;
      total = total s.ratios replies f;
      replies = length replies;
    }

-- why a reply on the item q is refused, where it is: the assessment is over,
-- or another item is asked
abbrev pub reply_fault : Asked → ℕ → Option ReplyFault
reply_fault (Over reason) q = Some (fault.Over reason)
reply_fault (Item p) q = if p == q then None else Some (fault.WrongItem p)
