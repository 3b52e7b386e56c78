-- Which assessments a program of 128 bits can follow.
use Rattle.std.specs.Prelude.{◌*◌, ◌^◌, ◌<◌, List}
use Rattle.ls_set.specs.{Items}
use Rattle.ls_theory.specs.declared.reply.Reply.{Reply}
use Rattle.ls_theory.specs.Weights.{weight, total}
use Rattle.ls_theory.specs.Settings.{Settings}
use Rattle.ls_theory.specs.Assessment.{leader}

-- twice the total, the share times the total, and a hundred times the leader's weight
-- have at most 128 bits
pub record FitsNow (s : Settings) (f : List Items) (replies : List Reply) : Type 0 where
  pub twice : 2 * total s.ratios replies f < 2 ^ 128
  pub part : s.share * total s.ratios replies f < 2 ^ 128
  pub hundred : 100 * weight s.ratios replies (leader s.ratios replies f) < 2 ^ 128
