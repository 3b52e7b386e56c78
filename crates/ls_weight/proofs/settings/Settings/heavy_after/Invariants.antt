use Rattle.ls_weight.proofs.Vocabulary.{◌*◌, ◌^◌, ◌≡◌, greatest}
use Rattle.ls_weight.proofs.Heavy.{heavy_from}
use Rattle.ls_weight.proofs.settings.Settings.heavy_after.Given as goal

-- the total is that after so many replies, and no fewer are heavy
abbrev pub invariant-loop-replies : goal.invariant-loop-replies
invariant-loop-replies l = record {
  total : l.total ≡ l.count * greatest l.self.ratios ^ l.replies;
  left : heavy_from l.self l.count l.replies;
}
