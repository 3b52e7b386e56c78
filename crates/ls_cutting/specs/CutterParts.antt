-- What a cutter keeps true of its parts.
use Rattle.std.specs.Prelude.{◌≡◌, ◌≤◌, true, false, vec_len, vec_capacity}
use Rattle.ls_cutting.specs.Lines.{longest_line}
use Rattle.ls_cutting.specs.declared.cutter.Cutter.TheInside.{Inside}

pub record IsKept (c : Inside) : Type 0 where
  pub room : longest_line ≤ vec_capacity c.bytes
  pub pending : c.is_ended ≡ false → vec_len c.bytes ≤ c.length
  pub ended : c.is_ended ≡ true → c.length ≡ 0
